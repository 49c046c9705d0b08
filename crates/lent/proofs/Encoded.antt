-- A number's bytes against what is read from them, over the width: writing and reading undo each other.
-- Assumes nothing.
use mathlib.Core.Path.{◌≡◌, refl, ap, ◌∙◌}
use Prim.Native.Nat.{ℕ, zero, suc, ◌+◌, ◌*◌, ◌/◌, ◌%◌, ◌^◌, ◌≤◌, ◌<◌}
use native.Mathlib.Nat.{pow-suc, pow-zero, suc-add, zero-add}
use native.Mathlib.Omega.{arith}
use mathlib.Core.List.{List, [], ◌∷◌, ◌++◌}
use lib.ListN.{length, get_or, take, drop}
use lib.Seq.{drop-cons}
use Rattle.lent.specs.Le.{le_at, le_bytes}
use Rattle.lent.proofs.Field.{Bytes}

pub length-le : (w n : ℕ) → length (le_bytes w n) ≡ w
unfolding le_bytes
length-le zero n = refl
length-le (suc w) n = ap suc (length-le w (n / 256))

-- what stands before a field does not count
after_one : (w x : ℕ) (l : List ℕ) (at : ℕ) → le_at w (x ∷ l) (suc at) ≡ le_at w l at
unfolding le_at
after_one zero x l at = refl
after_one (suc w) x l at = rw (after_one w x l (suc at))

pub le-after : (w : ℕ) (p l : List ℕ) (at : ℕ) → le_at w (p ++ l) (length p + at) ≡ le_at w l at
le-after w [] l at = rw (zero-add at)
le-after w (x ∷ p) l at =
    rw (suc-add (length p) at) (after_one w x (p ++ l) (length p + at) ∙ le-after w p l at)

-- what was written is read
pub le_read : (w n : ℕ) (l : List ℕ) → n < 256 ^ w → le_at w (le_bytes w n ++ l) 0 ≡ n
unfolding le_at le_bytes
le_read zero n l h = omega (arith, pow-zero 256)
le_read (suc w) n l h =
    let e = after_one w (n % 256) (le_bytes w (n / 256) ++ l) 0 in
    let m : n / 256 < 256 ^ w = omega (arith, pow-suc 256 w) in
    let r = le_read w (n / 256) l m in
    rw (e, r) (omega arith)

-- what was read is what is written
pub le-written : (w : ℕ) (s : List ℕ) (at : ℕ) → Bytes s → at + w ≤ length s
    → le_bytes w (le_at w s at) ≡ take w (drop at s)
unfolding le_at le_bytes
le-written zero s at b h = refl
le-written (suc w) s at b h =
    let m : (get_or s at 0 + 256 * le_at w s (suc at)) % 256 ≡ get_or s at 0 = omega (arith, b at) in
    let d : (get_or s at 0 + 256 * le_at w s (suc at)) / 256 ≡ le_at w s (suc at) = omega (arith, b at) in
    rw (drop-cons s at 0 (omega arith), m, d)
    (ap (λ (l : List ℕ). get_or s at 0 ∷ l) (le-written w s (suc at) b (omega arith)))

-- the four bytes of a number, as `to_le_bytes` reckons them
pub four_stored : (n : ℕ)
    → (n % 256 ∷ (n / 256 % 256 ∷ (n / 65536 % 256 ∷ (n / 16777216 % 256 ∷ [])))) ≡ le_bytes 4 n
unfolding le_bytes
four_stored n =
    let third : n / 256 / 256 ≡ n / 65536 = omega arith in
    let fourth : n / 65536 / 256 ≡ n / 16777216 = omega arith in
    rw (third, fourth) refl
