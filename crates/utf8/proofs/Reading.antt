-- A text as it is read: what is due and what is left of the text tell as much as the whole of it.
-- Assumes nothing.
use mathlib.Core.Path.{◌≡◌, refl, sym, ap, ◌∙◌}
use mathlib.Core.Logic.{◌≢◌}
use Prim.Native.Nat.{ℕ, suc, ◌+◌, ◌-◌, ◌≤◌, ◌<◌}
use native.Mathlib.Omega.{arith}
use Rattle.std.proofs.Common.{take, drop}
use Rattle.std.proofs.lemmas.Grind.{common_steps}
use mathlib.Core.Bool.{Bool, true, false, cond}
use mathlib.Core.List.{List, [], ◌∷◌}
use mathlib.Core.Option.{Option, none, some}
use lib.ListN.{length, get_or, drop_of_length-le}
use lib.Seq.{drop-cons}
use borrow.Author.Tests.{eq-eqb, ne_eqb}
use Rattle.utf8.specs.Reading.{left, Reading}
use Rattle.utf8.specs.Text.{before_zero, if_utf8}
use Rattle.utf8.specs.Utf8.{Range, after_lead, next, complete, completes, utf8}
use Rattle.utf8.proofs.Leads.{led}

-- what is left of the bytes from a place on, as a slice has it
abbrev pub rest : List ℕ → ℕ → List ℕ
rest s from = take (length s - from) (drop from s)

module _ (s : List ℕ) (i : ℕ) where
  left-zero : i < length s → get_or s i 0 ≡ 0 → left s i ≡ []
  unfolding before_zero
  left-zero h e = rw (drop-cons s i 0 h, eq-eqb (get_or s i 0) 0 e)

  left-more : i < length s → get_or s i 0 ≢ 0 → left s i ≡ get_or s i 0 ∷ left s (i + 1)
  unfolding before_zero
  left-more h n =
      let e : i + 1 ≡ suc i = omega arith in
      rw (drop-cons s i 0 h, ne_eqb (get_or s i 0) 0 n, e)

  left_end : length s ≤ i → left s i ≡ []
  unfolding before_zero
  left_end h = rw (drop_of_length-le s h)

-- nothing mends a wrong byte
pub never : (l : List ℕ) → completes none l ≡ false
unfolding completes
never [] = refl
never (b ∷ l) = never l

length-if : (t : Bool) (l : List ℕ) → length (cond t l []) ≡ cond t (length l) 0
length-if true l = refl
length-if false l = refl

module _ (s : List ℕ) where
  pub reading_first : Reading s (some []) 0
  reading_first = record { until = omega arith; long = omega arith; right = refl }

  module _ (due : Option (List Range)) (i : ℕ) (r : Reading s due i) where
    pub reading_more : i < length s → get_or s i 0 ≢ 0 → Reading s (next due (get_or s i 0)) (i + 1)
    unfolding completes
    reading_more h n =
        let m : left s i ≡ get_or s i 0 ∷ left s (i + 1) = left-more s i h n in
        record {
          until = omega arith;
          long = omega (arith, r.long, ap length m);
          right = sym (ap (completes due) m) ∙ r.right;
        }

    reading-done : left s i ≡ [] → cond (complete due) i 0 ≡ length (if_utf8 (before_zero s))
    unfolding if_utf8 completes
    reading-done e =
        let n : i ≡ length (before_zero s) = omega (arith, r.long, ap length e) in
        let c : complete due ≡ utf8 (before_zero s) = sym (ap (completes due) e) ∙ r.right in
        rw (n, c) (sym (length-if (utf8 (before_zero s)) (before_zero s)))

    pub reading_zero : i < length s → get_or s i 0 ≡ 0 → cond (complete due) i 0 ≡ length (if_utf8 (before_zero s))
    reading_zero h e = reading-done (left-zero s i h e)

    pub reading_end : length s ≤ i → cond (complete due) i 0 ≡ length (if_utf8 (before_zero s))
    reading_end h = reading-done (left_end s i h)

  pub reading_never : (i : ℕ) → Reading s none i → 0 ≡ length (if_utf8 (before_zero s))
  unfolding if_utf8
  reading_never i r =
      let e : utf8 (before_zero s) ≡ false = sym r.right ∙ never (left s i) in
      rw e

  -- after a character of ASCII nothing is due
  pub reading_ascii : (i : ℕ) → Reading s (some []) i → i < length s → 1 ≤ get_or s i 0 → get_or s i 0 ≤ 127
      → Reading s (some []) (i + 1)
  unfolding after_lead
  reading_ascii i r h low high =
      let b = get_or s i 0 in
      let none-due : some [] ≡ next (some []) b = led (some []) 0x00 128 refl b (omega arith) (omega arith) in
      rw none-due (reading_more (some []) i r h (λ z. omega arith))

-- what is left from a place on, read up to its place i
module _ (s : List ℕ) (from i : ℕ) (due : Option (List Range)) (r : Reading s due (from + i)) where
  pub rest_told : i < length (rest s from) → get_or (rest s from) i 0 ≢ 0 → (told : Option (List Range))
      → told ≡ next due (get_or (rest s from) i 0) → Reading s told (from + (i + 1))
  rest_told h n told e =
      let inside : from + i < length s = grind (arith, common_steps) in
      let same_byte : get_or (rest s from) i 0 ≡ get_or s (from + i) 0 = grind (arith, common_steps) in
      let after : from + (i + 1) ≡ from + i + 1 = omega arith in
      rw (e, same_byte, after) (reading_more s due (from + i) r inside (λ z. n (same_byte ∙ z)))

  pub rest_never : i < length (rest s from) → get_or (rest s from) i 0 ≢ 0
      → none ≡ next due (get_or (rest s from) i 0) → 0 ≡ length (if_utf8 (before_zero s))
  rest_never h n e = reading_never s (from + (i + 1)) (rest_told h n none e)

  pub rest_zero : i < length (rest s from) → get_or (rest s from) i 0 ≡ 0
      → cond (complete due) (from + i) 0 ≡ length (if_utf8 (before_zero s))
  rest_zero h e =
      let inside : from + i < length s = grind (arith, common_steps) in
      let zero_there : get_or s (from + i) 0 ≡ 0 = grind (arith, common_steps) in
      reading_zero s due (from + i) r inside zero_there

  pub rest_end : length (rest s from) ≤ i → cond (complete due) (length s) 0 ≡ length (if_utf8 (before_zero s))
  rest_end h =
      let at_end : length s ≡ from + i = grind (arith, common_steps, r.until) in
      let here = reading_end s due (from + i) r (omega arith) in
      rw (← at_end) at here

-- what a text is read by, as far as it is ASCII, and from there on
pub ruleset ascii_steps = (reading_first, reading_ascii, reading_zero, reading_end)

pub ruleset rest_steps = (rest_zero, rest_end, rest_never)
