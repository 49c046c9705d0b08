-- The theorems of this crate: what an iteration yields, from the start or from any cursor.
--   `iteration`          the steps from (0, 0) yield the merge of the two tables, frame by frame, and then the end
--   `iteration-refused`  where a frame is too large, they yield those before it and then refusal 4, and stay there
--   `iteration-from`, `iteration-from-refused`
--                        the same from any cursor, over the records from its places on
--   `all_new`, `all_old` every new frame once and in order; every old one too, but for those passed over
--   `starts-rise`        where both tables rise strictly, the yielded code starts rise strictly
-- Assumes nothing.
use mathlib.Core.Path.{◌≡◌, refl, sym, ap, ◌∙◌, subst}
use mathlib.Core.Logic.{⊎_elim}
use Prim.Native.Nat.{ℕ, zero, suc, ◌+◌, ◌/◌, ◌≤◌, ◌<◌}
use native.Mathlib.Nat.{zero-add, suc-add}
use mathlib.Core.Bool.{true, false, cond}
use mathlib.Core.List.{List, [], ◌∷◌}
use mathlib.Core.Option.{Option, none, some}
use lib.ListN.{length, replicate}
use Rattle.lent.specs.Paper.{Told, value, nothing, refused}
use Rattle.lent.specs.Order.{rising, keys}
use Rattle.lent.proofs.Logic.{which, lt-or-le, and_left, and_right}
use Rattle.lent.proofs.Place.{listed-step, listed-end, listed-all, map-listed}
use Rattle.framedata.specs.Records.{OldFrame, NewFrame, old_record, new_record, old_at, new_at, olds, news}
use Rattle.framedata.specs.Frame.{Frame}
use Rattle.framedata.specs.Tables.{shape_of_both}
use Rattle.framedata.specs.Step.{Pick, old, new, pick, at_start, Stepped, frame, pick_fits, frame_of}
use Rattle.framedata.specs.Step.{past, handed, step_spec}
use Rattle.framedata.specs.Merge.{followed, merge, olds_from, news_from, left, all_fit, until_too_large}
use Rattle.framedata.specs.Merge.{answers, cursor_after, YieldsThen, starts_of, news_of, olds_of, passed_on_equality}
use Rattle.framedata.specs.declared.cursor.FrameCursor.{FrameCursor}
use Rattle.framedata.proofs.Picking.{none_left, only-new, only-old, two-left, by-lesser}
use Rattle.framedata.proofs.Merging.{old_start, new_start, every-new, every-old, passed-on-equality, merge-rises}

module _ (s t : List ℕ) where
  -- what is left at a cursor, from what comes next there
  abbrev pub unrolled : FrameCursor → Option Pick → List Pick
  unrolled c none = []
  unrolled c (some p) = p ∷ left s t (past c p)

  module _ (c : FrameCursor) where
    abbrev pub i : ℕ
    i = c.old_index

    abbrev pub j : ℕ
    j = c.new_index

    abbrev pub n : ℕ
    n = length s / 16

    abbrev pub m : ℕ
    m = length t / 32

    abbrev pub here : Option Pick
    here = pick (old_at s i) (new_at t j)

    abbrev pub o : OldFrame
    o = old_record s i

    abbrev pub w : NewFrame
    w = new_record t j

    -- the records after those at the cursor
    abbrev pub os : List OldFrame
    os = olds_from s (i + 1)

    abbrev pub ws : List NewFrame
    ws = news_from t (j + 1)

    old-step : i < n → olds_from s i ≡ o ∷ os
    old-step = listed-step (old_record s) i n

    new-step : j < m → news_from t j ≡ w ∷ ws
    new-step = listed-step (new_record t) j m

    left-none : n ≤ i → m ≤ j → left s t c ≡ unrolled c here
    unfolding merge
    left-none h l = rw (none_left s t i j h l, listed-end (old_record s) i n h, listed-end (new_record t) j m l)

    left-new : n ≤ i → j < m → left s t c ≡ unrolled c here
    unfolding merge
    left-new h l = rw (only-new s t i j h l, listed-end (old_record s) i n h, new-step l)

    left-old : i < n → m ≤ j → left s t c ≡ unrolled c here
    unfolding merge
    left-old h l = rw (only-old s t i j h l, old-step h, listed-end (new_record t) j m l)

    left-two : i < n → j < m → left s t c ≡ unrolled c here
    unfolding merge
    left-two h l =
        rw (two-left s t i j h l)
        (ap (λ (x : List OldFrame). merge x (news_from t j)) (old-step h)
        ∙ ap (λ (y : List NewFrame). merge (o ∷ os) y) (new-step l)
        ∙ by-lesser o w
        (λ (p : Pick). followed p (merge os (w ∷ ws)) (merge (o ∷ os) ws) (merge os ws) ≡ p ∷ left s t (past c p))
        (λ e. ap (λ (y : List NewFrame). old o ∷ merge os y) (sym (new-step l)))
        (λ e. ap (λ (x : List OldFrame). new w ∷ merge x ws) (sym (old-step h)))
        (λ e. refl))

    pub left_step : left s t c ≡ unrolled c here
    left_step =
        ⊎_elim
        (λ (h : i < n). ⊎_elim (left-two h) (left-old h) (lt-or-le j m))
        (λ (h : n ≤ i). ⊎_elim (left-new h) (left-none h) (lt-or-le j m))
        (lt-or-le i n)

  -- at (0, 0) all is left
  pub from_start : left s t at_start ≡ merge (olds s) (news t)
  from_start =
      sym
      (ap (λ (x : List OldFrame). merge x (news t)) (listed-all (old_record s) (length s / 16))
      ∙ ap (λ (y : List NewFrame). merge (olds_from s 0) y) (listed-all (new_record t) (length t / 32)))

  no-pick : (c : FrameCursor) (x : Option Pick) → unrolled c x ≡ [] → x ≡ none
  no-pick c none e = refl
  no-pick c (some p) e = cc

  a-pick : (c : FrameCursor) (x : Option Pick) (p : Pick) (l : List Pick) → unrolled c x ≡ p ∷ l
      → (x ≡ some p) × (left s t (past c p) ≡ l)
  a-pick c none p l e = (cc, cc)
  a-pick c (some q) p l e =
      let g : q ≡ p = cc in
      let r : left s t (past c q) ≡ l = cc in
      (ap some g, subst (λ (x : Pick). left s t (past c x) ≡ l) g r)

-- where no frame is too large, all come before the first that is
all-until : (l : List Pick) → all_fit l ≡ true → until_too_large l ≡ l
unfolding all_fit until_too_large
all-until [] f = refl
all-until (p ∷ l) f =
    rw (and_left (pick_fits p) (all_fit l) f)
    (ap (λ (r : List Pick). p ∷ r) (all-until l (and_right (pick_fits p) (all_fit l) f)))

module _ (s t : List ℕ) where
  -- where a step answers x and hands its cursor back, so do all further ones
  again : (c : FrameCursor) (x : Told Frame) → step_spec s t c ≡ record { answer = x; cursor = c } → (k : ℕ)
      → (answers k s t c ≡ replicate k x) × (cursor_after k s t c ≡ c)
  unfolding answers cursor_after
  again c x e zero = (refl, refl)
  again c x e (suc k) =
      let r = again c x e k in
      (rw e (ap (λ (l : List (Told Frame)). x ∷ l) r.0), rw e r.1)

  yields_none : (c : FrameCursor) (x : Told Frame) → step_spec s t c ≡ record { answer = x; cursor = c }
      → YieldsThen s t c [] x
  unfolding cursor_after
  yields_none c x e =
      record { gives = λ k. rw (zero-add k) (again c x e k).0; stays = λ k. rw (zero-add k) (again c x e k).1 }

  yields-one : (c d : FrameCursor) (p : Pick) (l : List Pick) (x : Told Frame)
      → step_spec s t c ≡ record { answer = value (frame p); cursor = d } → YieldsThen s t d l x
      → YieldsThen s t c (p ∷ l) x
  unfolding answers cursor_after
  yields-one c d p l x e y =
      let on : (k : ℕ) → cursor_after (suc k) s t c ≡ cursor_after k s t d
      = λ k. ap (λ (r : Stepped). cursor_after k s t r.cursor) e in
      record {
        gives = λ k. rw (suc-add (length l) k, e) (ap (λ (r : List (Told Frame)). value (frame p) ∷ r) (y.gives k));
        stays = λ k. rw (suc-add (length l) k) (on (length l + k) ∙ y.stays k ∙ sym (on (length l)));
      }

  module _ (good : shape_of_both s t ≡ none) where
    step_end : (c : FrameCursor) → here s t c ≡ none → step_spec s t c ≡ handed c c nothing
    unfolding step_spec
    step_end c e = rw (good, e)

    step-pick : (c : FrameCursor) (p : Pick) → here s t c ≡ some p → step_spec s t c ≡ handed c (past c p) (frame_of p)
    unfolding step_spec
    step-pick c p e = rw (good, e)

    steps : (l : List Pick) (c : FrameCursor) → left s t c ≡ l
        → YieldsThen s t c (until_too_large l) (cond (all_fit l) nothing (refused 4))
    unfolding all_fit until_too_large
    steps [] c e = yields_none c nothing (step_end c (no-pick s t c (here s t c) (sym (left_step s t c) ∙ e)))
    steps (p ∷ l) c e =
        let g = a-pick s t c (here s t c) p l (sym (left_step s t c) ∙ e) in
        ⊎_elim
        (λ (f : pick_fits p ≡ true).
        rw f
        (yields-one c (past c p) p (until_too_large l) (cond (all_fit l) nothing (refused 4))
        (rw f at (step-pick c p g.0)) (steps l (past c p) g.1)))
        (λ (f : pick_fits p ≡ false). rw f (yields_none c (refused 4) (rw f at (step-pick c p g.0))))
        (which (pick_fits p))

    -- from any cursor: the merge of the records from its places on, each frame once, and then the end ..
    pub iteration-from : (c : FrameCursor) → all_fit (left s t c) ≡ true → YieldsThen s t c (left s t c) nothing
    iteration-from c f = rw (f, all-until (left s t c) f) at (steps (left s t c) c refl)

    -- .. or, where a frame is too large, the frames before the first that is, and then refusal 4
    pub iteration-from-refused : (c : FrameCursor) → all_fit (left s t c) ≡ false
        → YieldsThen s t c (until_too_large (left s t c)) (refused 4)
    iteration-from-refused c f = rw f at (steps (left s t c) c refl)

    -- from (0, 0): the merge of the two tables
    pub iteration : all_fit (merge (olds s) (news t)) ≡ true → YieldsThen s t at_start (merge (olds s) (news t)) nothing
    iteration =
        subst (λ (l : List Pick). all_fit l ≡ true → YieldsThen s t at_start l nothing) (from_start s t)
        (iteration-from at_start)

    pub iteration-refused : all_fit (merge (olds s) (news t)) ≡ false
        → YieldsThen s t at_start (until_too_large (merge (olds s) (news t))) (refused 4)
    iteration-refused =
        subst (λ (l : List Pick). all_fit l ≡ false → YieldsThen s t at_start (until_too_large l) (refused 4))
        (from_start s t) (iteration-from-refused at_start)

module _ (s t : List ℕ) where
  -- every new frame exactly once and in order
  pub all_new : news_of (merge (olds s) (news t)) ≡ news t
  all_new = every-new (olds s) (news t)

  -- every old frame exactly once and in order, yielded or passed over ..
  pub all_old : olds_of (merge (olds s) (news t)) ≡ olds s
  all_old = every-old (olds s) (news t)

  -- .. and passed over only where an equal new one is yielded
  pub passed_over : passed_on_equality (merge (olds s) (news t)) ≡ true
  passed_over = passed-on-equality (olds s) (news t)

  -- where both tables rise strictly, the yielded code starts rise strictly
  pub starts-rise : rising (keys 16 s) ≡ true → rising (keys 32 t) ≡ true
      → rising (starts_of (merge (olds s) (news t))) ≡ true
  starts-rise r q =
      merge-rises (olds s) (news t)
      (ap rising (map-listed old_start (old_record s) 0 (length s / 16)) ∙ r)
      (ap rising (map-listed new_start (new_record t) 0 (length t / 32)) ∙ q)
