-- What `start_spec` answers, from what the code's tests found.
-- Assumes nothing.
use mathlib.Core.Path.{◌≡◌, refl, ◌∙◌}
use Prim.Native.Nat.{ℕ, zero, suc, ◌+◌, ◌-◌, ◌/◌, ◌≤◌, ◌<◌}
use native.Mathlib.Omega.{arith}
use native.Mathlib.Nat.{sub-zero}
use mathlib.Core.Logic.{⊎_elim}
use mathlib.Core.Bool.{true, false}
use mathlib.Core.List.{List}
use mathlib.Core.Option.{none, some}
use lib.ListN.{length}
use borrow.Author.Tests.{le-leb, lt-leb}
use Rattle.lent.specs.Paper.{value, refused}
use Rattle.lent.specs.Table.{listed}
use Rattle.lent.specs.Order.{FirstAbove, omap_fault}
use Rattle.lent.proofs.Logic.{lt-or-le}
use Rattle.lent.proofs.Place.{length-listed}
use Rattle.omap.specs.Records.{entry_at, records}
use Rattle.omap.specs.Step.{count_up_to, start_on, start_spec}
use Rattle.omap.proofs.Last.{src}
use Rattle.omap.proofs.Looked.{found, found_none}

none-up : (s : List ℕ) (i n a : ℕ) → ((j : ℕ) → i ≤ j → j < i + n → a < src s j) → count_up_to a
    (listed (entry_at s) i n) ≡ 0
unfolding count_up_to listed
none-up s i zero a g = refl
none-up s i (suc n) a g = rw (lt-leb (src s i) a (g i (omega arith) (omega arith)))
    (none-up s (suc i) n a (λ j p q. g j (omega arith) (omega arith)))

-- the records before place k, and no others, are at or below a
up-to-places : (s : List ℕ) (i n a k : ℕ) → i ≤ k → k ≤ i + n → ((j : ℕ) → i ≤ j → j < k → src s j ≤ a)
    → ((j : ℕ) → k ≤ j → j < i + n → a < src s j) → count_up_to a (listed (entry_at s) i n) ≡ k - i
unfolding count_up_to listed
up-to-places s i zero a k h l f g = omega arith
up-to-places s i (suc n) a k h l f g =
    ⊎_elim
    (λ (m : i < k).
    rw (le-leb (src s i) a (f i (omega arith) m))
    (omega (
      arith,
      up-to-places s (suc i) n a k m (omega arith) (λ j p q. f j (omega arith) q)
          (λ j p q. g j p (omega arith)),
    )))
    (λ (m : k ≤ i).
    rw (lt-leb (src s i) a (g i m (omega arith)))
    (none-up s (suc i) n a (λ j p q. g j (omega arith) (omega arith)) ∙ omega arith))
    (lt-or-le i k)

pub up-to-is : (s : List ℕ) (a k : ℕ) → FirstAbove 8 s a k → count_up_to a (records s) ≡ k
unfolding records
up-to-is s a k u =
    up-to-places s 0 (length s / 8) a k (omega arith) (omega (arith, u.within)) (λ j p q. u.below j q)
    (λ j p q. u.above j p (omega arith)) ∙ sub-zero k

pub length-records : (s : List ℕ) → length (records s) ≡ length s / 8
unfolding records
length-records s = length-listed (entry_at s) 0 (length s / 8)

module _ (s : List ℕ) (a b : ℕ) where
  pub start-absent : value (record { address = a; end = b; source = a; target = a; place = 0 }) ≡ start_spec false s a b
  unfolding start_spec
  start-absent = refl

  pub start-refused : (n : ℕ) → some n ≡ omap_fault s → refused n ≡ start_spec true s a b
  unfolding start_spec
  start-refused n e = rw (← e)

  module _ (good : none ≡ omap_fault s) where
    start-good : start_spec true s a b ≡ value (start_on (records s) a b)
    unfolding start_spec
    start-good = rw (← good)

    pub start-empty : b ≤ a → value
        (record { address = 0; end = 0; source = 0; target = 0; place = length s / 8 }) ≡ start_spec true s a b
    unfolding start_on
    start-empty h = rw (start-good, le-leb b a h, length-records s)

    module _ (h : a < b) where
      pub start-before : FirstAbove 8 s a 0 → value
          (record { address = a; end = b; source = 0; target = 0; place = 0 }) ≡ start_spec true s a b
      unfolding start_on
      start-before u = rw (start-good, lt-leb b a h, up-to-is s a 0 u, found_none s a u)

      pub start-record : (k : ℕ) → 0 < k → FirstAbove 8 s a k
          → value (record {
            address = a;
            end = b;
            source = (entry_at s (k - 1)).source;
            target = (entry_at s
                (k - 1)).target;
            place = k;
          }) ≡ start_spec true s a b
      unfolding start_on
      start-record k p u = rw (start-good, lt-leb b a h, up-to-is s a k u, found s a k p u)
