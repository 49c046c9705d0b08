-- What a turn of the cursor answers, and how the turns follow one another.
-- Assumes nothing.
use mathlib.Core.Path.{◌≡◌, refl, sym, ap, ◌∙◌}
use mathlib.Core.Logic.{⊎_elim}
use Prim.Native.Nat.{ℕ, ◌+◌, ◌-◌, ◌/◌, ◌≤◌, ◌<◌, min}
use native.Mathlib.Omega.{arith}
use mathlib.Core.Bool.{Bool, true, false, cond, and-false}
use mathlib.Core.List.{List, [], ◌∷◌}
use mathlib.Core.Option.{none, some}
use lib.ListN.{length}
use lib.Dec.{ltb, leb}
use borrow.Author.Tests.{lt-ltb, le-ltb, le-leb, lt-leb, eq-eqb, ne_eqb}
use Rattle.lent.specs.Table.{if_present, omap_shape}
use Rattle.lent.proofs.Logic.{lt-or-le}
use Rattle.lent.proofs.Place.{listed-step, listed-end}
use Rattle.omap.specs.Records.{Entry, entry_at, rest}
use Rattle.omap.specs.Output.{beside_start, fits}
use Rattle.omap.specs.Turn.{Turn, pulled, turn_with, end_of, turns}
use Rattle.omap.specs.Step.{Stepped, piece, done, refused_at, translated, piece_or, first_piece, step_spec}
use Rattle.omap.specs.Turned.{next_turn, turned_by}
use Rattle.omap.specs.declared.cursor.Cursor.{Cursor}
use Rattle.std.specs.Prelude.{Result, Ok, Err, Option as Maybe, Some, None}
use Rattle.omap.specs.Refusals.{step_number}
use Rattle.omap.specs.declared.piece.Range.{Range}
use Rattle.omap.specs.declared.cursor.StepRefusal.{StepRefusal}
use Rattle.omap.specs.declared.cursor.StepRefusal.TheVariants.{Early, TooLarge}
use Rattle.omap.specs.declared.cursor.Turned.{Turned}

-- what a turn answers: a piece from f to t and the next cursor, or the next cursor alone
abbrev pub given : ℕ → ℕ → Cursor → Result Turned StepRefusal
given f t k = Ok (record { range = Some (record { start = f; end = t }); next = k })

abbrev pub skip : Cursor → Result Turned StepRefusal
skip k = Ok (record { range = None; next = k })

-- whether the part before x is translated
module _ (x : Entry) (p : ℕ) (c : Cursor) where
  pub part-empty : min x.source c.end ≤ c.address → translated (turn_with x p c) ≡ false
  unfolding translated
  part-empty h = rw (le-ltb 0 (min x.source c.end - c.address) (omega arith))

  pub part-zero : c.target ≡ 0 → translated (turn_with x p c) ≡ false
  unfolding translated
  part-zero z = rw (eq-eqb c.target 0 z, and-false (ltb 0 (min x.source c.end - c.address)))

  pub part-some : c.address < min x.source c.end → (c.target ≡ 0 → ⊥) → translated (turn_with x p c) ≡ true
  unfolding translated
  part-some h z = rw (lt-ltb 0 (min x.source c.end - c.address) (omega arith), ne_eqb c.target 0 z)

-- what a turn answers, from what the code's tests found
module _ (x : Entry) (p : ℕ) (c : Cursor) where
  abbrev t : Turn
  t = turn_with x p c

  pub turn-skips : translated t ≡ false → skip (pulled x p c) ≡ turned_by t
  unfolding turned_by
  turn-skips e = rw e

  module _ (counts : translated t ≡ true) where
    pub turn-early : c.address < c.source → Err Early ≡ turned_by t
    unfolding turned_by
    turn-early e = rw (counts, lt-leb c.source c.address e)

    module _ (e : c.source ≤ c.address) where
      pub turn-piece : fits t.part ≡ true → given t.part.to (beside_start t.part) (pulled x p c) ≡ turned_by t
      unfolding turned_by
      turn-piece f = rw (counts, le-leb c.source c.address e, f)

      pub turn-large : fits t.part ≡ false → Err TooLarge ≡ turned_by t
      unfolding turned_by
      turn-large f = rw (counts, le-leb c.source c.address e, f)

module _ (s : List ℕ) (c : Cursor) where
  pub next-record : c.place < length s / 8 → next_turn (rest s c.place) c ≡ turn_with (entry_at s c.place)
      (c.place + 1) c
  next-record h = rw (listed-step (entry_at s) c.place (length s / 8) h)

  nothing_left : length s / 8 ≤ c.place → rest s c.place ≡ []
  nothing_left h = listed-end (entry_at s) c.place (length s / 8) h

  pub next-end : length s / 8 ≤ c.place → next_turn (rest s c.place) c ≡ turn_with (end_of c) c.place c
  next-end h = rw (nothing_left h)

-- what a turn means for the step of the cursor c₀; after a skip the turns go on
abbrev pub shown : Maybe Range → Cursor → Stepped → Stepped
shown (Some r) c rest = piece r.start r.end c
shown None c rest = rest

abbrev pub onward : Cursor → Result Turned StepRefusal → Stepped → Stepped
onward c₀ (Ok t) rest = shown t.range t.next rest
onward c₀ (Err why) rest = refused_at (step_number why) c₀

-- the step of c₀, with the turns of c still to take
abbrev pub walk : Cursor → List Entry → Cursor → Stepped
walk c₀ l c = first_piece c₀ c (turns l c)

by_tests : (a b d : Bool) (c₀ k : Cursor) (f e : ℕ) (on : Stepped)
    → cond a (cond b (cond d (piece f e k) (refused_at 4 c₀)) (refused_at 6 c₀)) on
    ≡ onward c₀ (cond a (cond b (cond d (given f e k) (Err TooLarge)) (Err Early)) (skip k)) on
by_tests true true true c₀ k f e on = refl
by_tests true true false c₀ k f e on = refl
by_tests true false d c₀ k f e on = refl
by_tests false b d c₀ k f e on = refl

by_turn : (c₀ k : Cursor) (t : Turn) (l : List Turn) → first_piece c₀ k (t ∷ l) ≡ onward c₀ (turned_by t)
    (first_piece c₀ t.after l)
unfolding first_piece piece_or turned_by
by_turn c₀ k t l =
    by_tests (translated t) (leb t.owner.source t.part.at) (fits t.part) c₀ t.after t.part.to
    (beside_start t.part)
    (first_piece c₀ t.after l)

pub walk-done : (l : List Entry) (c₀ c : Cursor) → c.end ≤ c.address → walk c₀ l c ≡ done c
unfolding turns first_piece
walk-done [] c₀ c h = rw (le-ltb c.address c.end h)
walk-done (x ∷ l) c₀ c h = rw (le-ltb c.address c.end h)

-- the step, once the first turn is skipped
abbrev later : List Entry → Cursor → Cursor → Stepped
later [] c₀ c = first_piece c₀ (pulled (end_of c) c.place c) []
later (x ∷ l) c₀ c = walk c₀ l (pulled x (c.place + 1) c)

walk_turn : (l : List Entry) (c₀ c : Cursor) → c.address < c.end → walk c₀ l c ≡ onward c₀ (turned_by (next_turn l c))
    (later l c₀ c)
unfolding turns
walk_turn [] c₀ c h = rw (lt-ltb c.address c.end h) (by_turn c₀ c (turn_with (end_of c) c.place c) [])
walk_turn (x ∷ l) c₀ c h =
    rw (lt-ltb c.address c.end h)
    (by_turn c₀ c (turn_with x (c.place + 1) c) (turns l (pulled x (c.place + 1) c)))

-- a turn that ends the step
pub walk_ends : (l : List Entry) (c₀ c : Cursor) → c.address < c.end → (t : Result Turned StepRefusal) → t ≡ turned_by (next_turn l c)
    → (a : Stepped) → ((rest : Stepped) → onward c₀ t rest ≡ a) → walk c₀ l c ≡ a
walk_ends l c₀ c h t e a f = walk_turn l c₀ c h ∙ rw (← e) (f (later l c₀ c))

-- a turn that finds a piece gives it
pub turn-yields : (l : List Entry) (c₀ c : Cursor) → c.address < c.end → (t : Turned) → Ok t ≡ turned_by (next_turn l c)
    → (r : Range) → t.range ≡ Some r → walk c₀ l c ≡ piece r.start r.end t.next
turn-yields l c₀ c h t e r f = walk_ends l c₀ c h (Ok t) e (piece r.start r.end t.next) (λ on. rw f)

-- one that finds none skips the part
pub turn-passes : (t : Turned) (u : Turn) → t.range ≡ None → Ok t ≡ turned_by u → skip t.next ≡ turned_by u
turn-passes t u f e = ap (λ (r : Maybe Range). Ok (record { range = r; next = t.next })) (sym f) ∙ e

abbrev next_or : Cursor → Result Turned StepRefusal → Cursor
next_or c (Ok turned) = turned.next
next_or c (Err why) = c

abbrev range_of : Result Turned StepRefusal → Maybe Range
range_of (Ok turned) = turned.range
range_of (Err why) = None

-- a skip leaves the cursor that has pulled the record
skip-cases : (a b d : Bool) (f g : ℕ) (k k' : Cursor)
    → skip k' ≡ cond a (cond b (cond d (given f g k) (Err TooLarge)) (Err Early)) (skip k)
    → k' ≡ k
skip-cases true true true f g k k' e = let r : ◌≡◌ {A = Maybe Range} None (Some (record { start = f; end = g })) = ap range_of e in cc
skip-cases true true false f g k k' e = cc
skip-cases true false d f g k k' e = cc
skip-cases false b d f g k k' e = ap (next_or k) e

skip_is : (t : Turn) (k : Cursor) → skip k ≡ turned_by t → k ≡ t.after
unfolding turned_by
skip_is t k e =
    skip-cases (translated t) (leb t.owner.source t.part.at) (fits t.part) t.part.to
    (beside_start t.part) t.after k e

falls-end : (n p q x y : ℕ) → p ≡ q → x ≡ 0 → y ≡ 1 → (n - p) + x < (n - q) + y
falls-end n p q x y e f g = rw (e, f, g) (omega arith)

-- a skip: the walk goes on, and a record fewer is left or the window is used up
pub record Onward (s : List ℕ) (c₀ c k : Cursor) : Type 0 where
  pub same : walk c₀ (rest s c.place) c ≡ walk c₀ (rest s k.place) k
  pub less : (length s / 8 - k.place) + min 1 (k.end - k.address) < (length s / 8 - c.place) + min 1
      (c.end - c.address)

module _ (s : List ℕ) (c₀ c k : Cursor) (h : c.address < c.end)
    (e : skip k ≡ turned_by (next_turn (rest s c.place) c)) where
  goes_on : walk c₀ (rest s c.place) c ≡ later (rest s c.place) c₀ c
  goes_on = walk_turn (rest s c.place) c₀ c h ∙ rw (← e)

  by-record : c.place < length s / 8 → Onward s c₀ c k
  by-record l =
      let x = entry_at s c.place in
      let is : k ≡ pulled x (c.place + 1) c = skip_is (turn_with x (c.place + 1) c) k
      (e ∙ ap turned_by (next-record s c l)) in
      let at : k.place ≡ c.place + 1 = ap (λ (q : Cursor). q.place) is in
      record {
        same =
            goes_on ∙ ap (λ (q : List Entry). later q c₀ c) (listed-step (entry_at s) c.place (length s / 8) l)
            ∙ ap (walk c₀ (rest s (c.place + 1))) (sym is) ∙ ap (λ (q : ℕ). walk c₀ (rest s q) k) (sym at);
        less = omega arith;
      }

  by_end : length s / 8 ≤ c.place → Onward s c₀ c k
  unfolding first_piece
  by_end l =
      let is : k ≡ pulled (end_of c) c.place c = skip_is (turn_with (end_of c) c.place c) k
      (e ∙ ap turned_by (next-end s c l)) in
      let at : k.place ≡ c.place = ap (λ (q : Cursor). q.place) is in
      let ad : k.address ≡ min c.end c.end = ap (λ (q : Cursor). q.address) is in
      let en : k.end ≡ c.end = ap (λ (q : Cursor). q.end) is in
      record {
        same =
            goes_on ∙ ap (λ (q : List Entry). later q c₀ c) (nothing_left s c l) ∙ ap done (sym is)
            ∙ sym (walk-done (rest s k.place) c₀ k (omega arith));
        less = falls-end (length s / 8) k.place c.place (min 1 (k.end - k.address))
            (min 1 (c.end - c.address)) at (omega arith) (omega arith);
      }

  pub skipped : Onward s c₀ c k
  skipped = ⊎_elim by-record by_end (lt-or-le c.place (length s / 8))

-- what `step_spec` answers, from the table h that stands behind the mark
module _ (present : Bool) (s h : List ℕ) (c : Cursor) (is : h ≡ if_present present s) where
  pub step-refused : (n : ℕ) → some n ≡ omap_shape h → refused_at n c ≡ step_spec present s c
  unfolding step_spec
  step-refused n e =
      let f : omap_shape (if_present present s) ≡ some n = ap omap_shape (sym is) ∙ sym e in
      rw f

  pub step-good : none ≡ omap_shape h → step_spec present s c ≡ walk c (rest h c.place) c
  unfolding step_spec
  step-good e =
      let f : omap_shape (if_present present s) ≡ none = ap omap_shape (sym is) ∙ sym e in
      rw f (ap (λ (q : List ℕ). walk c (rest q c.place) c) (sym is))
