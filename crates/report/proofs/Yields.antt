-- What an iteration over both tables answers, step by step, and how many frames it yields.
-- Assumes nothing.
use mathlib.Core.Path.{◌≡◌, refl, sym, ap, ◌∙◌}
use mathlib.Core.Logic.{⊎_elim}
use Prim.Native.Nat.{ℕ, suc, ◌+◌, ◌/◌, ◌≤◌}
use native.Mathlib.Nat.{zero-add, add-zero}
use native.Mathlib.Omega.{arith}
use mathlib.Core.Bool.{Bool, true, false, cond}
use mathlib.Core.List.{List, [], ◌∷◌, map}
use mathlib.Core.Option.{Option, none, some}
use lib.ListN.{length, length-map}
use Rattle.std.specs.Prelude.{Some}
use Rattle.lent.specs.Paper.{Told, value, nothing, refused, unless}
use Rattle.lent.proofs.Logic.{which}
use Rattle.lent.proofs.Place.{length-listed}
use Rattle.framedata.specs.Records.{OldFrame, NewFrame, old_record, new_record, olds, news}
use Rattle.framedata.specs.Frame.{Frame}
use Rattle.framedata.specs.Tables.{shape_of_both}
use Rattle.framedata.specs.Step.{Pick, at_start, Stepped, frame, pick_fits, past, handed, step_spec, unless_refused}
use Rattle.framedata.specs.Merge.{merge, left, all_fit}
use Rattle.framedata.specs.declared.cursor.FrameCursor.{FrameCursor}
use Rattle.framedata.proofs.Merging.{by-merge}
use Rattle.framedata.proofs.Iteration.{unrolled, here, left_step, from_start}
use Rattle.report.specs.Frames.{frames, frames_or_refusal, how_many}
use Rattle.report.specs.Iteration.{answered, after_fault, answers_left, yielded}

module _ (s t : List ℕ) where
  -- what is answered from a cursor on, by what the step there answers and hands back
  abbrev pub by_answer : Told Frame → FrameCursor → List (Told Frame)
  by_answer (value f) d = value f ∷ answers_left s t (Some d)
  by_answer nothing d = []
  by_answer (refused n) d = refused n ∷ []

  abbrev pub by_step : Stepped → List (Told Frame)
  by_step q = by_answer q.answer q.cursor

  module _ (c : FrameCursor) where
    by-pick : shape_of_both s t ≡ none → (p : Pick) (fits : Bool)
        → cond fits (value (frame p) ∷ answered (left s t (past c p))) (refused 4 ∷ [])
        ≡ by_step (handed c (past c p) (cond fits (value (frame p)) (refused 4)))
    by-pick good p true = rw good
    by-pick good p false = refl

    by-found : (fault : Option ℕ) (x : Option Pick) → shape_of_both s t ≡ fault → left s t c ≡ unrolled s t c x
        → after_fault fault (answered (left s t c)) ≡ by_step (unless_refused c fault x)
    unfolding answered
    by-found (some n) x is l = refl
    by-found none none is l = rw l
    by-found none (some p) is l = rw l (by-pick is p (pick_fits p))

    pub left_by_step : answers_left s t (Some c) ≡ by_step (step_spec s t c)
    unfolding step_spec
    left_by_step = by-found (shape_of_both s t) (here s t c) refl (left_step s t c)

-- the number of frames among some answers, beside k before them; or their first refusal
abbrev pub counted : ℕ → List (Told Frame) → Told ℕ
counted k [] = value k
counted k (value f ∷ l) = counted (k + 1) l
counted k (nothing ∷ l) = counted k l
counted k (refused n ∷ l) = refused n

counted-answered : (k : ℕ) (l : List Pick)
    → counted k (answered l) ≡ cond (all_fit l) (value (k + length l)) (refused 4)
unfolding answered all_fit
counted-answered k [] = rw (add-zero k)
counted-answered k (p ∷ l) =
    let e : k + suc (length l) ≡ (k + 1) + length l = omega arith in
    ⊎_elim
    (λ (f : pick_fits p ≡ true). rw (f, e) (counted-answered (k + 1) l))
    (λ (f : pick_fits p ≡ false). rw f)
    (which (pick_fits p))

-- no more answers than picks
answered-few : (l : List Pick) → length (answered l) ≤ length l
unfolding answered
answered-few [] = omega arith
answered-few (p ∷ l) =
    ⊎_elim
    (λ (f : pick_fits p ≡ true). rw f (omega (arith, answered-few l)))
    (λ (f : pick_fits p ≡ false). rw f (omega arith))
    (which (pick_fits p))

-- where no frame is too large, each answer is a frame
answered-fit : (l : List Pick) → all_fit l ≡ true → answered l ≡ map value (map frame l)
unfolding answered all_fit
answered-fit [] e = refl
answered-fit (p ∷ l) e =
    ⊎_elim
    (λ (f : pick_fits p ≡ true). rw f (ap (λ (m : List (Told Frame)). value (frame p) ∷ m) (answered-fit l (rw f at e))))
    (λ (f : pick_fits p ≡ false). let z : false ≡ true = rw f at e in cc)
    (which (pick_fits p))

yielded-values : (l : List Frame) → yielded (map value l) ≡ l
yielded-values [] = refl
yielded-values (f ∷ l) = ap (λ (m : List Frame). f ∷ m) (yielded-values l)

merge-few : (os : List OldFrame) (ns : List NewFrame) → length (merge os ns) ≤ length os + length ns
merge-few =
    by-merge (λ os ns l. length l ≤ length os + length ns) (omega arith)
    (λ o os ns l h k. omega (arith, k))
    (λ n os ns l h k. omega (arith, k))
    (λ n o os ns l e k. omega (arith, k))

by-fault : (fault : Option ℕ) (l : List Pick) → counted 0 (after_fault fault (answered l))
    ≡ how_many (unless fault (cond (all_fit l) (value (map frame l)) (refused 4)))
by-fault (some n) l = refl
by-fault none l = counted-answered 0 l ∙ told (all_fit l)
  where
    told : (b : Bool) → cond b (value (0 + length l)) (refused 4) ≡ how_many (cond b (value (map frame l)) (refused 4))
    told true = ap value (zero-add (length l) ∙ sym (length-map l frame))
    told false = refl

fault-few : (fault : Option ℕ) (l : List Pick) → length (after_fault fault (answered l)) ≤ 1 + length l
fault-few (some n) l = omega arith
fault-few none l = omega (arith, answered-few l)

-- where n frames are counted, nothing is refused: each answer is a frame, and there are n
pub record Counted (s t : List ℕ) (n : ℕ) : Type 0 where
  pub told : frames_or_refusal s t ≡ value (frames s t)
  pub yields : yielded (answers_left s t (Some at_start)) ≡ frames s t
  pub answers : length (answers_left s t (Some at_start)) ≡ n
  pub number : length (frames s t) ≡ n
  pub few : n ≤ length s / 16 + length t / 32

-- the whole iteration
module _ (s t : List ℕ) where
  pub all_counted : counted 0 (answers_left s t (Some at_start)) ≡ how_many (frames_or_refusal s t)
  unfolding frames_or_refusal
  all_counted = rw (from_start s t) (by-fault (shape_of_both s t) (merge (olds s) (news t)))

  -- no more frames than records ..
  few-frames : length (merge (olds s) (news t)) ≤ length s / 16 + length t / 32
  few-frames =
      let o : length (olds s) ≡ length s / 16 = length-listed (old_record s) 0 (length s / 16) in
      let n : length (news t) ≡ length t / 32 = length-listed (new_record t) 0 (length t / 32) in
      omega (arith, o, n, merge-few (olds s) (news t))

  -- .. and no more answers, or one alone
  pub few_answers : length (answers_left s t (Some at_start)) ≤ 1 + (length s / 16 + length t / 32)
  few_answers =
      rw (from_start s t) (omega (arith, few-frames, fault-few (shape_of_both s t) (merge (olds s) (news t))))

  counted-by : (n : ℕ) (fault : Option ℕ) (b : Bool) → shape_of_both s t ≡ fault → all_fit (merge (olds s) (news t)) ≡ b
      → value n ≡ how_many (unless fault (cond b (value (frames s t)) (refused 4))) → Counted s t n
  unfolding frames_or_refusal
  counted-by n none true g f e =
      let l = merge (olds s) (news t) in
      let m : n ≡ length (frames s t) = cc in
      let all : answers_left s t (Some at_start) ≡ map value (frames s t) = rw (from_start s t, g) (answered-fit l f) in
      record {
        told = rw (g, f);
        yields = rw all (yielded-values (frames s t));
        answers = rw all (length-map (frames s t) value ∙ sym m);
        number = sym m;
        few = omega (arith, m, length-map l frame, few-frames);
      }
  counted-by n none false g f e = let z : ◌≡◌ {A = ℕ} 0 1 = cc in absurd (omega arith)
  counted-by n (some m) b g f e = let z : ◌≡◌ {A = ℕ} 0 1 = cc in absurd (omega arith)

  pub counted_all : (n : ℕ) → value n ≡ how_many (frames_or_refusal s t) → Counted s t n
  unfolding frames_or_refusal
  counted_all n e = counted-by n (shape_of_both s t) (all_fit (merge (olds s) (news t))) refl refl e
