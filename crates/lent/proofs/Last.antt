-- The last element at or below an address, found by its neighbours; and a table that gives no refusal is in order.
-- Assumes nothing.
use mathlib.Core.Path.{◌≡◌, refl, sym, ap, subst}
use mathlib.Core.Logic.{⊎_elim}
use Prim.Native.Nat.{ℕ, zero, suc, ◌+◌, ◌-◌, ◌/◌, ◌≤◌, ◌<◌}
use native.Mathlib.Nat.{eq-or-lt_of_le}
use native.Mathlib.Omega.{arith}
use mathlib.Core.Bool.{Bool, true, false, cond}
use mathlib.Core.List.{List}
use mathlib.Core.Option.{Option, none, some}
use lib.ListN.{length}
use borrow.Author.Tests.{le-leb, lt-leb}
use Rattle.lent.specs.Paper.{first_fault}
use Rattle.lent.specs.Words.{or_else}
use Rattle.lent.specs.Table.{listed, Kind, shape_fault}
use Rattle.lent.specs.Order.{rising, key_at, keys, table_fault, last_at, FirstAbove}

no-fault : (f : Option ℕ) (t : Bool) → first_fault f (cond t none (some 3)) ≡ none → t ≡ true
no-fault none true e = refl
no-fault none false e = cc
no-fault (some n) t e = cc

-- a table that is not refused is in order
pub in_order : (k : Kind) (s : List ℕ) → table_fault k s ≡ none → rising (keys k.width s) ≡ true
unfolding table_fault
in_order k s e = no-fault (shape_fault k s) (rising (keys k.width s)) e

module _ {A : Type 0} (key : A → ℕ) (f : ℕ → A) where
  -- no element at or below a
  pub last_none : (i n a : ℕ) → ((j : ℕ) → i ≤ j → j < i + n → a < key (f j)) → last_at key a (listed f i n) ≡ none
  unfolding last_at listed or_else
  last_none i zero a h = refl
  last_none i (suc n) a h =
      rw (
        last_none (suc i) n a (λ j m l. h j (omega arith) (omega arith)),
        lt-leb (key (f i)) a
            (h i (omega arith) (omega arith)),
      )

  -- the one at k is at or below a, and none after it is
  pub last_some : (i n a k : ℕ) → i ≤ k → k < i + n → key (f k) ≤ a → ((j : ℕ) → k < j → j < i + n → a < key (f j))
      → last_at key a (listed f i n) ≡ some (f k)
  unfolding last_at listed or_else
  last_some i zero a k h l b g = absurd (omega arith)
  last_some i (suc n) a k h l b g =
      ⊎_elim
      (λ (e : i ≡ k).
      rw (
        last_none (suc i) n a (λ j m q. g j (omega arith) (omega arith)),
        le-leb (key (f i)) a
            (subst (λ (q : ℕ). key (f q) ≤ a) (sym e) b),
      )
      (ap (λ (q : ℕ). some (f q)) e))
      (λ (m : i < k). rw (last_some (suc i) n a k m (omega arith) b (λ j q z. g j q (omega arith))))
      (eq-or-lt_of_le h)

  -- the record just before the first one above a is the last at or below it
  module _ (w : ℕ) (s : List ℕ) (a : ℕ) (same : (j : ℕ) → key (f j) ≡ key_at w s j) where
    pub found : (k : ℕ) → 0 < k → FirstAbove w s a k → last_at key a (listed f 0 (length s / w)) ≡ some (f (k - 1))
    found k pos u =
        let n : k ≤ length s / w = u.within in
        last_some 0 (length s / w) a (k - 1) (omega arith) (omega arith)
        (omega (arith, same (k - 1), u.below (k - 1) (omega arith)))
        (λ j h l. omega (arith, same j, u.above j (omega arith) (omega arith)))

    pub found_none : FirstAbove w s a 0 → last_at key a (listed f 0 (length s / w)) ≡ none
    found_none u = last_none 0 (length s / w) a (λ j h l. omega (arith, same j, u.above j h (omega arith)))
