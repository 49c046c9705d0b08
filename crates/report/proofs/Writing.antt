-- A whole text, and a number's digits written from the last one down.
-- Assumes nothing.
use mathlib.Core.Path.{◌≡◌, refl, sym, ap, ◌∙◌}
use mathlib.Core.Logic.{⊎_elim}
use Prim.Native.Nat.{ℕ, zero, suc, ◌+◌, ◌*◌, ◌/◌, ◌%◌, ◌^◌, ◌≤◌, ◌<◌, max}
use native.Mathlib.Nat.{pow-suc, one-le-pow}
use native.Mathlib.Omega.{arith}
use mathlib.Core.List.{List, [], ◌∷◌, ◌++◌, append_assoc, reverse}
use lib.ListN.{length, take, set, length-append}
use Rattle.std.proofs.lemmas.List.{take_more_set, reverse-append}
use lib.Seq.{length-sets}
use borrow.Author.Tests.{lt-ltb, le-ltb, le-leb}
use Rattle.lent.specs.Paper.{number}
use Rattle.lent.specs.Room.{Wrote}
use Rattle.lent.specs.declared.refusal.Refusal.{Refusal}
use Rattle.lent.specs.declared.refusal.Refusal.TheVariants.{Length, Count, Order}
use Rattle.lent.proofs.Logic.{lt-or-le}
use Rattle.lent.proofs.Wrote.{front}
use Rattle.report.specs.Text.{glyph, digits, places_in, places, Printed}

-- a whole text, written from the front on
pub printed : {text before after : List ℕ} {r : ℕ} (room : ℕ) → room ≤ length before → Wrote text before 0 r after
    → Printed room text before r after
printed {text} {before} {after} {r} room h w =
    let enough : length text ≤ length before = omega (arith, w.room) in
    record {
      answer = rw (le-leb room (length before) h) (omega (arith, w.place));
      bytes = rw (le-leb room (length before) h) (w.bytes ∙ front text before enough);
      within = omega (arith, w.place, ap length w.bytes ∙ length-sets before 0 text);
    }

pub length_digits : (b w n : ℕ) → length (digits b w n) ≡ w
unfolding digits
length_digits b zero n = refl
length_digits b (suc w) n =
    length-append (digits b w (n / b)) (glyph (n % b) ∷ []) ∙ omega (arith, length_digits b w (n / b))

-- the digits that are left to write, before those that are written, which stand the other way round
pub digit_next : (b k i n : ℕ) (out : List ℕ) → i < length out
    → digits b k (n / b) ++ reverse (take (i + 1) (set out i (glyph (n % b)))) ≡ digits b (suc k) n ++ reverse (take i out)
unfolding digits
digit_next b k i n out h =
    rw (take_more_set out i (glyph (n % b)) h, reverse-append (take i out) (glyph (n % b) ∷ []))
    (sym (append_assoc (digits b k (n / b)) (glyph (n % b) ∷ []) (reverse (take i out))))

-- a number of digits that is large enough gives the same as any other
same-places : (f g n : ℕ) → n ≤ f → n ≤ g → places_in f n ≡ places_in g n
unfolding places_in
same-places zero zero n h l = refl
same-places zero (suc g) n h l = rw (lt-ltb n 10 (omega arith))
same-places (suc f) zero n h l = rw (lt-ltb n 10 (omega arith))
same-places (suc f) (suc g) n h l =
    ⊎_elim
    (λ (s : n < 10). rw (lt-ltb n 10 s))
    (λ (s : 10 ≤ n). rw (le-ltb n 10 s) (ap suc (same-places f g (n / 10) (omega arith) (omega arith))))
    (lt-or-le n 10)

pub places_one : (n : ℕ) → n < 10 → places n ≡ 1
unfolding places_in
places_one zero h = refl
places_one (suc n) h = rw (lt-ltb (suc n) 10 h)

pub places-more : (n : ℕ) → 10 ≤ n → places n ≡ suc (places (n / 10))
unfolding places_in
places-more zero h = absurd (omega arith)
places-more (suc n) h =
    rw (le-ltb (suc n) 10 h) (ap suc (same-places n (suc n / 10) (suc n / 10) (omega arith) (omega arith)))

-- a number below a power of ten has at most as many digits
pub places-most : (w n : ℕ) → n < 10 ^ suc w → places n ≤ suc w
places-most zero n h = omega (arith, pow-suc 10 0, places_one n (omega (arith, pow-suc 10 0)))
places-most (suc w) n h =
    ⊎_elim
    (λ (l : n < 10). omega (arith, places_one n l))
    (λ (l : 10 ≤ n). omega (arith, places-more n l, places-most w (n / 10) (omega (arith, pow-suc 10 (suc w)))))
    (lt-or-le n 10)

pub few_places : (n : ℕ) → n < 10000 → places n ≤ 4
few_places n h = places-most 3 n (omega (arith, h))

-- a table's refusals have one digit
pub number_small : (why : Refusal) → number why < 10
number_small Length = omega arith
number_small Count = omega arith
number_small Order = omega arith

places-by : (d n : ℕ) → 10 ^ d ≤ n → n < 10 ^ suc d → places n ≡ suc d
places-by zero n h l = places_one n (omega (arith, pow-suc 10 0))
places-by (suc d) n h l =
    let ten : 10 ≤ n = omega (arith, pow-suc 10 d, one-le-pow d 10 (omega arith)) in
    places-more n ten
    ∙ ap suc (places-by d (n / 10) (omega (arith, pow-suc 10 d)) (omega (arith, pow-suc 10 (suc d))))

-- the digits by the greatest power of ten that is not above the number
pub places_by_power : (d n : ℕ) → 10 ^ d ≤ max n 1 → max n 1 < 10 * 10 ^ d → d + 1 ≡ places n
unfolding places_in
places_by_power zero zero h l = refl
places_by_power (suc d) zero h l = absurd (omega (arith, pow-suc 10 d, one-le-pow d 10 (omega arith)))
places_by_power d (suc n) h l = omega (arith, places-by d (suc n) (omega arith) (omega (arith, pow-suc 10 d)))
