-- In a table in order the keys rise with the places.
-- Assumes nothing.
use mathlib.Core.Path.{◌≡◌, refl, ap, ◌∙◌, subst}
use mathlib.Core.Logic.{⊎_elim}
use Prim.Native.Nat.{ℕ, zero, suc, ◌+◌, ◌-◌, ◌≤◌, ◌<◌}
use native.Mathlib.Nat.{eq-or-lt_of_le}
use native.Mathlib.Omega.{arith}
use mathlib.Core.Bool.{Bool, true, false, ◌&&◌}
use mathlib.Core.List.{List, [], ◌∷◌}
use lib.Dec.{ltb}
use borrow.Author.Tests.{ltb-true}
use Rattle.lent.specs.Table.{listed}
use Rattle.lent.specs.Order.{rising_after, rising}
use Rattle.lent.proofs.Logic.{and_left, and_right}
use Rattle.lent.proofs.Place.{listed-step, listed-end, listed-all}

-- what follows a greater number is in order by itself
pub after-rising : (p : ℕ) (l : List ℕ) → rising_after p l ≡ true → rising l ≡ true
unfolding rising_after rising
after-rising p [] r = refl
after-rising p (x ∷ l) r = and_right (ltb p x) (rising_after x l) r

regrouped : (r t u : Bool) → (r && (t && u)) ≡ ((r && t) && u)
regrouped true t u = refl
regrouped false t u = refl

module _ (f : ℕ → ℕ) where
  module _ (i n p : ℕ) (h : i < n) where
    -- the order of the numbers left, by the first of them; what has not risen once stays so
    pub after-step : (rises : Bool) → (rises && rising_after p (listed f i (n - i)))
        ≡ ((rises && ltb p (f i)) && rising_after (f i) (listed f (i + 1) (n - (i + 1))))
    unfolding rising_after
    after-step rises = rw (listed-step f i n h)
        (regrouped rises (ltb p (f i)) (rising_after (f i) (listed f (i + 1) (n - (i + 1)))))

  -- the order of all is that of those after the first
  pub rising-first : (n : ℕ) → 0 < n → rising (listed f 0 n) ≡ rising_after (f 0) (listed f 1 (n - 1))
  unfolding rising
  rising-first n h = ap rising (listed-all f n) ∙ ap rising (listed-step f 0 n h)

  pub rising_none : (n : ℕ) → n ≡ 0 → rising (listed f 0 n) ≡ true
  unfolding rising listed
  rising_none n e = rw e

  pub rising-all : (p i n : ℕ) → n ≤ i → rising_after p (listed f i (n - i)) ≡ true
  unfolding rising_after
  rising-all p i n h = rw (listed-end f i n h)

  after-each : (i n p : ℕ) → rising_after p (listed f i n) ≡ true → (j : ℕ) → i ≤ j → j < i + n → p < f j
  unfolding rising_after listed
  after-each i zero p r j h l = absurd (omega arith)
  after-each i (suc n) p r j h l =
      let here : p < f i = ltb-true p (f i) (and_left (ltb p (f i)) (rising_after (f i) (listed f (suc i) n)) r) in
      let rest : rising_after (f i) (listed f (suc i) n) ≡ true = and_right (ltb p (f i))
      (rising_after (f i) (listed f (suc i) n)) r in
      ⊎_elim
      (λ (e : i ≡ j). subst (λ (k : ℕ). p < f k) e here)
      (λ (m : i < j). omega (arith, after-each (suc i) n (f i) rest j m (omega arith)))
      (eq-or-lt_of_le h)

  -- of two places in order, the later has the greater number
  pub each : (i n : ℕ) → rising (listed f i n) ≡ true → (j k : ℕ) → i ≤ j → j < k → k < i + n → f j < f k
  unfolding rising listed
  each i zero r j k h m l = absurd (omega arith)
  each i (suc n) r j k h m l =
      ⊎_elim
      (λ (e : i ≡ j). subst (λ (q : ℕ). f q < f k) e (after-each (suc i) n (f i) r k (omega arith) (omega arith)))
      (λ (q : i < j). each (suc i) n (after-rising (f i) (listed f (suc i) n) r) j k q m (omega arith))
      (eq-or-lt_of_le h)

  -- the numbers do not fall with the places
  pub in_place : (n : ℕ) → rising (listed f 0 n) ≡ true → (j k : ℕ) → j ≤ k → k < n → f j ≤ f k
  in_place n r j k h l =
      ⊎_elim
      (λ (e : j ≡ k). subst (λ (q : ℕ). f j ≤ f q) e (omega arith))
      (λ (m : j < k). omega (arith, each 0 n r j k (omega arith) m (omega arith)))
      (eq-or-lt_of_le h)
