-- The loop of `binary_search`: what is left of the search gives what the whole search gives.
-- Assumes nothing.
use mathlib.Core.Path.{◌≡◌, refl, sym, ap, ◌∙◌}
use Prim.Native.Nat.{ℕ, zero, suc, ◌+◌, ◌-◌, ◌/◌, ◌≤◌, ◌<◌}
use native.Mathlib.Nat.{sub-zero}
use native.Mathlib.Omega.{arith}
use mathlib.Core.Bool.{Bool, true, false, cond}
use mathlib.Core.List.{List}
use lib.ListN.{length}
use lib.Dec.{leb}
use borrow.Author.Tests.{eq-eqb, ne_eqb}
use Rattle.lent.specs.Order.{key_at}
use Rattle.lent.specs.Search.{Run, middle, probed, halved, ended, binary_search}

module _ (w : ℕ) (s : List ℕ) (a : ℕ) where
  halved-empty : (m : ℕ) (r : Run) → r.size ≡ 0 → halved w s a m r ≡ r
  unfolding halved
  halved-empty zero r e = refl
  halved-empty (suc m) r e = rw (eq-eqb r.size 0 e)

  halved-more : (m : ℕ) (r : Run) → 0 < r.size → halved w s a (suc m) r ≡ halved w s a m (probed w s a r)
  unfolding halved
  halved-more m r h = rw (ne_eqb r.size 0 (λ e. omega arith))

  -- the run from lo up to hi and its middle, where all runs after as many probes are `longest` records long or one
  -- less; it ends as the whole table does
  pub record Halving (lo hi mid longest probes : ℕ) : Type 0 where
    pub up : lo ≤ hi
    pub within : hi ≤ length s / w
    pub in-middle : mid ≡ lo + (hi - lo) / 2
    pub at_most : hi - lo ≤ longest
    pub at_least : longest ≤ hi - lo + 1
    pub fewer : probes + (hi - lo) ≤ length s / w
    pub same : halved w s a (length s / w - probes) (record { place = lo; size = hi - lo; probes = probes }) ≡ ended w s a

  pub halving-first : Halving 0 (length s / w) (length s / w / 2) (length s / w) 0
  halving-first = record {
    up = omega arith;
    within = omega arith;
    in-middle = omega arith;
    at_most = omega arith;
    at_least = omega arith;
    fewer = omega arith;
    same = ap (λ (k : ℕ). halved w s a k (record { place = 0; size = k; probes = 0 })) (sub-zero (length s / w));
  }

  -- the search ends where the run is empty
  pub halving-done : (lo hi mid longest probes : ℕ) → Halving lo hi mid longest probes → hi - lo ≡ 0
      → record { place = lo; probes = probes } ≡ binary_search w s a
  unfolding binary_search
  halving-done lo hi mid longest probes v e =
      ap (λ (q : Run). record { place = q.place; probes = q.probes })
      (sym (halved-empty (length s / w - probes) (record { place = lo; size = hi - lo; probes = probes }) e) ∙ v.same)

  module _ (lo hi mid longest probes : ℕ) (v : Halving lo hi mid longest probes) where
    abbrev r : Run
    r = record { place = lo; size = hi - lo; probes = probes }

    module _ (h : lo < hi) where
      one_more : halved w s a (length s / w - (probes + 1)) (probed w s a r) ≡ ended w s a
      one_more =
          let n : probes + (hi - lo) ≤ length s / w = v.fewer in
          let m : length s / w - probes ≡ suc (length s / w - (probes + 1)) = omega arith in
          sym (halved-more (length s / w - (probes + 1)) r (omega arith))
          ∙ ap (λ (k : ℕ). halved w s a k r) (sym m)
          ∙ v.same

      -- the records after the one in the middle, or those before it
      here : (t : Bool) → leb (key_at w s (middle r)) a ≡ t
          → Halving (cond t (middle r + 1) lo) (cond t hi (middle r))
          (cond t ((middle r + 1 + hi) / 2) ((lo + middle r) / 2)) (longest / 2) (probes + 1)
      unfolding probed
      here true e =
          let b = v.within in
          let f = v.fewer in
          let m = v.at_most in
          let l = v.at_least in
          record {
            up = omega arith;
            within = b;
            in-middle = omega arith;
            at_most = omega arith;
            at_least = omega arith;
            fewer = omega arith;
            same =
                ap (λ (k : ℕ). halved w s a (length s / w - (probes + 1)) (record { place = middle r + 1; size = k; probes = probes + 1 }))
                (omega arith) ∙ rw e at one_more;
          }
      here false e =
          let b = v.within in
          let f = v.fewer in
          let m = v.at_most in
          let l = v.at_least in
          record {
            up = omega arith;
            within = omega arith;
            in-middle = omega arith;
            at_most = omega arith;
            at_least = omega arith;
            fewer = omega arith;
            same =
                ap (λ (k : ℕ). halved w s a (length s / w - (probes + 1)) (record { place = lo; size = k; probes = probes + 1 }))
                (omega arith) ∙ rw e at one_more;
          }

      pub halving-next : (t : Bool) → t ≡ leb (key_at w s mid) a → (lo' hi' mid' : ℕ)
          → lo' ≡ cond t (mid + 1) lo → hi' ≡ cond t hi mid → mid' ≡ cond t ((mid + 1 + hi) / 2) ((lo + mid) / 2)
          → Halving lo' hi' mid' (longest / 2) (probes + 1)
      halving-next t e lo' hi' mid' p q m =
          rw (p, q, m, e, v.in-middle) (here (leb (key_at w s (middle r)) a) refl)

      -- the last record of a search: where the run has one
      pub halving-last : longest ≤ 1 → (t : Bool) → t ≡ leb (key_at w s lo) a → (lo' : ℕ) → lo' ≡ cond t (lo + 1) lo
          → record { place = lo'; probes = probes + 1 } ≡ binary_search w s a
      halving-last one t e lo' p =
          let m : mid ≡ lo = omega (arith, v) in
          let f : t ≡ leb (key_at w s mid) a = rw m e in
          let g : lo' ≡ cond t (mid + 1) lo = rw m p in
          let next = halving-next t f lo' (cond t hi mid) (cond t ((mid + 1 + hi) / 2) ((lo + mid) / 2)) g refl refl in
          halving-done lo' (cond t hi mid) (cond t ((mid + 1 + hi) / 2) ((lo + mid) / 2)) (longest / 2) (probes + 1) next
          (rw p (left t))
        where
          left : (t : Bool) → cond t hi mid - cond t (lo + 1) lo ≡ 0
          left true = omega (arith, v)
          left false = omega (arith, v)
