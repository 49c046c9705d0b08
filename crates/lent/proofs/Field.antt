-- The decoding fact, over the field's width: a field of w bytes is below 256 ^ w. The widths that the code reads
-- follow.
-- Assumes nothing.
use mathlib.Core.Path.{◌≡◌}
use Prim.Native.Nat.{ℕ, zero, suc, ◌+◌, ◌*◌, ◌^◌, ◌<◌}
use native.Mathlib.Nat.{pow-suc, pow-zero}
use native.Mathlib.Numerals.{add-one, add-two}
use native.Mathlib.Omega.{arith}
use mathlib.Core.List.{List}
use lib.ListN.{get_or}
use mir.Syntax.{w8}
use mir.Val.{Fits}
use Rattle.lent.specs.Le.{le_at}

abbrev pub Bytes : List ℕ → Type 0
Bytes s = (i : ℕ) → Fits w8 (get_or s i 0)

pub below : (w : ℕ) (s : List ℕ) (at : ℕ) → Bytes s → le_at w s at < 256 ^ w
unfolding le_at
below zero s at b = omega (arith, pow-zero 256)
below (suc w) s at b = omega (arith, below w s (suc at) b, b at, pow-suc 256 w)

pub add-three : (n : ℕ) → n + 3 ≡ suc (suc (suc n))
add-three n = omega arith

-- a field as a flat sum of its bytes
module _ (s : List ℕ) (at : ℕ) where
  pub two_bytes : le_at 2 s at ≡ get_or s at 0 + get_or s (at + 1) 0 * 256
  unfolding le_at
  two_bytes = rw add-one (omega arith)

  pub four_bytes : le_at 4 s at ≡ get_or s at 0 + get_or s (at + 1) 0 * 256 + get_or s (at + 2) 0 * 65536 + get_or s
      (at + 3) 0 * 16777216
  unfolding le_at
  four_bytes = rw (add-one, add-two, add-three at) (omega arith)
