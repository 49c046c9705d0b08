-- The places of records: each lies inside the table; and the list of what stands at them, one place at a time.
-- Assumes nothing.
use mathlib.Core.Path.{◌≡◌, refl, sym, ap}
use Prim.Native.Nat.{ℕ, zero, suc, ◌+◌, ◌-◌, ◌*◌, ◌/◌, ◌≤◌, ◌<◌}
use native.Mathlib.Nat.{mul-div-le, mul-le-mul_left, mul-le-mul_right, sub-zero, mul-one, mul-add}
use native.Mathlib.Numerals.{add-one}
use native.Mathlib.Omega.{arith}
use mathlib.Core.List.{List, [], ◌∷◌, map}
use lib.ListN.{length}
use Rattle.lent.specs.Table.{listed}

-- the whole record at place i lies inside n bytes
pub inside : (w n i : ℕ) → i < n / w → w * i + w ≤ n
inside w n i h =
    let e : w * (i + 1) ≡ w * i + w = omega (arith, mul-add w i 1, mul-one w) in
    let m : w * (i + 1) ≤ w * (n / w) = mul-le-mul_left w (omega arith) in
    omega (arith, mul-div-le n w)

-- records of four bytes or more: four times their number is no more than the bytes
pub four_each : (w n : ℕ) → 4 ≤ w → 4 * (n / w) ≤ n
four_each w n h = omega (arith, mul-le-mul_right (n / w) h, mul-div-le n w)

module _ {A : Type 0} (f : ℕ → A) where
  pub listed-step : (i n : ℕ) → i < n → listed f i (n - i) ≡ f i ∷ listed f (i + 1) (n - (i + 1))
  unfolding listed
  listed-step i n h =
      let e : n - i ≡ suc (n - (i + 1)) = omega arith in
      rw (e, add-one)

  pub listed-end : (i n : ℕ) → n ≤ i → listed f i (n - i) ≡ []
  unfolding listed
  listed-end i n h =
      let e : n - i ≡ 0 = omega arith in
      rw e

  -- all places are those from 0 on
  pub listed-all : (n : ℕ) → listed f 0 n ≡ listed f 0 (n - 0)
  listed-all n = ap (λ (k : ℕ). listed f 0 k) (sym (sub-zero n))

  pub length-listed : (i n : ℕ) → length (listed f i n) ≡ n
  unfolding listed
  length-listed i zero = refl
  length-listed i (suc n) = ap suc (length-listed (suc i) n)

module _ {A B : Type 0} (g : A → B) (f : ℕ → A) where
  pub map-listed : (i n : ℕ) → map g (listed f i n) ≡ listed (λ (k : ℕ). g (f k)) i n
  unfolding listed
  map-listed i zero = refl
  map-listed i (suc n) = ap (λ (l : List B). g (f i) ∷ l) (map-listed (suc i) n)
