-- What the reader's tests find, and what it answers where all are passed.
-- Assumes nothing.
use mathlib.Core.Path.{◌≡◌, refl}
use Prim.Native.Nat.{ℕ, ◌+◌, ◌-◌, ◌≤◌}
use native.Mathlib.Omega.{arith}
use mathlib.Core.Bool.{true}
use mathlib.Core.List.{List, [], ◌∷◌}
use lib.ListN.{length, drop}
use lib.Dec.{eqb}
use Rattle.std.specs.Cmp.Lexicographic.{pointwise}
use Rattle.std.specs.List.{ends_with}
use Rattle.std.proofs.lemmas.Bool.Decides.{nat_tests}
use borrow.Author.Tests.{le-leb, eq-eqb}
use Rattle.lent.specs.Le.{le_at}
use Rattle.lent.specs.Paper.{value}
use Rattle.bundle.specs.Layout.{mark}
use Rattle.bundle.specs.Reading.{spans_at, span_list, touching, same, trailer_at, read_spec}

eqb-sym : (m n : ℕ) → eqb m n ≡ eqb n m
eqb-sym m n = grind (arith, nat_tests)

-- the library's comparison of the last bytes
same-told : (k l : List ℕ) → pointwise eqb l k ≡ same k l
unfolding same
same-told [] [] = refl
same-told [] (y ∷ l) = refl
same-told (x ∷ k) [] = refl
same-told (x ∷ k) (y ∷ l) = rw (eqb-sym y x, same-told k l)

pub mark_told : (s : List ℕ) → ends_with eqb s mark ≡ same (drop (length s - 4) s) mark
mark_told s = same-told (drop (length s - 4) s) mark

-- a file that passes every test is read
pub read-parts : (s : List ℕ) → length s ≤ 4294967295 → 56 ≤ length s → true ≡ same (drop (length s - 4) s) mark
    → le_at 4 s (trailer_at s + 48) ≡ 1 → true ≡ touching 0 (trailer_at s) (span_list (spans_at s (trailer_at s)))
    → value (spans_at s (trailer_at s)) ≡ read_spec s
unfolding read_spec
read-parts s fits room marked version touch =
    rw (
      le-leb (length s) 4294967295 fits,
      le-leb 56 (length s) room,
      ← marked,
      eq-eqb (le_at 4 s (trailer_at s + 48)) 1 version,
      ← touch,
    )
