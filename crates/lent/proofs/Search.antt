-- The search by halving.
--   `used-up`       the run that it ends in is empty
--   `few-probes`    n records take at most k probes where n is below 2 to the k
--   `key-before`    on any table, the record just before the final place has a key of at most the address
--   `first_above`   on a table in order, the records before the final place, and no others, have such a key
-- Assumes nothing.
use mathlib.Core.Path.{◌≡◌, refl, subst}
use mathlib.Core.Logic.{⊎_elim}
use Prim.Native.Nat.{ℕ, zero, suc, ◌+◌, ◌-◌, ◌/◌, ◌^◌, ◌≤◌, ◌<◌}
use native.Mathlib.Nat.{eq-zero-or-pos, pow-suc, pow-zero}
use native.Mathlib.Omega.{arith}
use mathlib.Core.Bool.{true}
use mathlib.Core.List.{List}
use lib.ListN.{length}
use borrow.Author.Tests.{le-leb, lt-leb, eq-eqb, ne_eqb}
use Rattle.lent.specs.Order.{rising, key_at, keys, FirstAbove}
use Rattle.lent.specs.Search.{Run, middle, after, before, probed, halved, whole, ended, binary_search}
use Rattle.lent.specs.declared.searches.Searched.{Searched}
use Rattle.lent.proofs.Logic.{lt-or-le}
use Rattle.lent.proofs.Rising.{in_place}

module _ (w : ℕ) (s : List ℕ) (a : ℕ) where
  -- a probe, by what it found
  by-probe : (P : Run → Type 0) (r : Run) → (key_at w s (middle r) ≤ a → P (after r))
      → (a < key_at w s (middle r) → P (before r)) → P (probed w s a r)
  unfolding probed
  by-probe P r up down =
      ⊎_elim
      (λ (h : a < key_at w s (middle r)). rw (lt-leb (key_at w s (middle r)) a h) (down h))
      (λ (h : key_at w s (middle r) ≤ a). rw (le-leb (key_at w s (middle r)) a h) (up h))
      (lt-or-le a (key_at w s (middle r)))

  -- what each probe keeps, the search keeps
  along : (P : Run → Type 0) → ((r : Run) → 0 < r.size → P r → P (probed w s a r)) → (m : ℕ) (r : Run) → P r
      → P (halved w s a m r)
  unfolding halved
  along P step zero r p = p
  along P step (suc m) r p =
      ⊎_elim
      (λ (e : r.size ≡ 0). rw (eq-eqb r.size 0 e) p)
      (λ (h : 0 < r.size).
      rw (ne_eqb r.size 0 (λ e. omega arith)) (along P step m (probed w s a r) (step r h p)))
      (eq-zero-or-pos r.size)

  empties : (m : ℕ) (r : Run) → r.size ≤ m → (halved w s a m r).size ≡ 0
  unfolding halved
  empties zero r h = omega arith
  empties (suc m) r h =
      ⊎_elim
      (λ (e : r.size ≡ 0). rw (eq-eqb r.size 0 e) e)
      (λ (p : 0 < r.size).
      rw (ne_eqb r.size 0 (λ e. omega arith))
      (empties m (probed w s a r) (by-probe (λ (q : Run). q.size ≤ m) r (λ u. omega arith) (λ d. omega arith))))
      (eq-zero-or-pos r.size)

  pub used-up : (ended w s a).size ≡ 0
  used-up = empties (length s / w) (whole w s) (omega arith)

  -- a probe leaves less than half of what was below twice as many
  counts : (k m : ℕ) (r : Run) → r.size < 2 ^ k → (halved w s a m r).probes ≤ r.probes + k
  unfolding halved
  counts k zero r h = omega arith
  counts zero (suc m) r h = rw (eq-eqb r.size 0 (omega (arith, pow-zero 2))) (omega arith)
  counts (suc k) (suc m) r h =
      ⊎_elim
      (λ (e : r.size ≡ 0). rw (eq-eqb r.size 0 e) (omega arith))
      (λ (p : 0 < r.size).
      let half : ((probed w s a r).size < 2 ^ k) × ((probed w s a r).probes ≡ r.probes + 1)
      = by-probe (λ (q : Run). (q.size < 2 ^ k) × (q.probes ≡ r.probes + 1)) r
      (λ u. (omega (arith, pow-suc 2 k), refl))
      (λ d. (omega (arith, pow-suc 2 k), refl)) in
      rw (ne_eqb r.size 0 (λ e. omega arith)) (omega (arith, counts k m (probed w s a r) half.0)))
      (eq-zero-or-pos r.size)

  pub few-probes : (k : ℕ) → length s / w < 2 ^ k → (binary_search w s a).probes ≤ k
  unfolding binary_search
  few-probes k h = omega (arith, counts k (length s / w) (whole w s) h)

  -- a run inside the table, behind a record whose key is at most a
  record Behind (r : Run) : Type 0 where
    pub within : r.place + r.size ≤ length s / w
    pub last : 0 < r.place → key_at w s (r.place - 1) ≤ a

  behind : (r : Run) → 0 < r.size → Behind r → Behind (probed w s a r)
  behind r h b =
      let n : r.place + r.size ≤ length s / w = b.within in
      by-probe Behind r
      (λ (u : key_at w s (middle r) ≤ a).
      record { within = omega arith; last = λ p. subst (λ (j : ℕ). key_at w s j ≤ a) (omega arith) u })
      (λ d. record { within = omega arith; last = b.last })

  ends-behind : Behind (ended w s a)
  ends-behind =
      along Behind behind (length s / w) (whole w s) (record { within = omega arith; last = λ p. absurd (omega arith) })

  pub place-within : (binary_search w s a).place ≤ length s / w
  unfolding binary_search
  place-within = omega (arith, ends-behind.within)

  pub key-before : 0 < (binary_search w s a).place → key_at w s ((binary_search w s a).place - 1) ≤ a
  unfolding binary_search
  key-before = ends-behind.last

  -- all records before a run have a key of at most a, and all after it a greater one
  record Between (r : Run) : Type 0 where
    pub within : r.place + r.size ≤ length s / w
    pub below : (j : ℕ) → j < r.place → key_at w s j ≤ a
    pub above : (j : ℕ) → r.place + r.size ≤ j → j < length s / w → a < key_at w s j

  module _ (o : rising (keys w s) ≡ true) where
    ordered : (i j : ℕ) → i ≤ j → j < length s / w → key_at w s i ≤ key_at w s j
    ordered = in_place (key_at w s) (length s / w) o

    between : (r : Run) → 0 < r.size → Between r → Between (probed w s a r)
    between r h b =
        let n : r.place + r.size ≤ length s / w = b.within in
        by-probe Between r
        (λ (u : key_at w s (middle r) ≤ a).
        record {
          within = omega arith;
          below = λ j l. omega (arith, ordered j (middle r) (omega arith) (omega arith));
          above = λ j l m. b.above j (omega arith) m;
        })
        (λ (d : a < key_at w s (middle r)).
        record {
          within = omega arith;
          below = b.below;
          above = λ j l m. omega (arith, ordered (middle r) j (omega arith) m);
        })

    pub first_above : FirstAbove w s a (binary_search w s a).place
    unfolding binary_search
    first_above =
        let e = along Between between (length s / w) (whole w s)
        (record { within = omega arith; below = λ j l. absurd (omega arith); above = λ j l m. absurd (omega arith) }) in
        record {
          within = omega (arith, e.within);
          below = e.below;
          above = λ j l m. e.above j (omega (arith, used-up)) m;
        }

    pub found-above : (r : Searched) → r ≡ binary_search w s a → FirstAbove w s a r.place
    found-above r e = rw e first_above
