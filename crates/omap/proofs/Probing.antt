-- The quick lookup.
--   `quick-is-full`   on a table in order it answers as the full lookup does
--   `quick-probes`    it never reports more than 21 probes
--   `quick-order`     it never gives refusal 3
-- Assumes nothing.
use mathlib.Core.Path.{◌≡◌, refl, sym, ap, ◌∙◌}
use Prim.Native.Nat.{ℕ, ◌/◌, ◌%◌, ◌≤◌}
use native.Mathlib.Omega.{arith}
use mathlib.Core.Bool.{Bool, true, false, cond}
use mathlib.Core.List.{List}
use mathlib.Core.Option.{Option, none, some}
use lib.ListN.{length}
use lib.Dec.{leb, eqb}
use Rattle.lent.specs.Paper.{Told, value, nothing, refused, first_fault, unless, fitted}
use Rattle.lent.specs.Table.{omap_table, omap_shape, shape_fault}
use Rattle.lent.specs.Order.{rising, keys, table_fault}
use Rattle.lent.specs.Search.{binary_search}
use Rattle.lent.proofs.Search.{few-probes}
use Rattle.lent.proofs.Shaped.{at_most}
use Rattle.omap.specs.Records.{moved, single}
use Rattle.omap.specs.Lookup.{lookup_spec}
use Rattle.omap.specs.Quick.{Probed, reported, record_before, answered_at, quick_spec, without_probes}
use Rattle.omap.proofs.Looked.{holder}

-- what the code's tests found
module _ (s : List ℕ) (a : ℕ) where
  pub quick-absent : reported 0 (value a) ≡ quick_spec false s a
  unfolding quick_spec
  quick-absent = refl

  pub quick-refused : (n : ℕ) → some n ≡ omap_shape s → refused n ≡ quick_spec true s a
  unfolding quick_spec
  quick-refused n e = rw (← e)

  module _ (good : none ≡ omap_shape s) where
    pub quick-good : answered_at s a (binary_search 8 s a) ≡ quick_spec true s a
    unfolding quick_spec
    quick-good = rw (← good)

    pub within-21 : (binary_search 8 s a).probes ≤ 21
    within-21 = few-probes 8 s a 21 (omega (arith, at_most omap_table s good))

-- an answer's probes are taken off again
unreported : (n : ℕ) (t : Told ℕ) → without_probes (reported n t) ≡ t
unreported n (value t) = refl
unreported n nothing = refl
unreported n (refused why) = refl

pub quick-is-full : (present : Bool) (s : List ℕ) (a : ℕ) → rising (keys 8 s) ≡ true
    → without_probes (quick_spec present s a) ≡ lookup_spec present s a
unfolding quick_spec lookup_spec table_fault single
quick-is-full false s a r = refl
quick-is-full true s a r =
    rw (r, ← (holder s a r))
    (by_shape (omap_shape s) (binary_search 8 s a).probes (fitted (moved a (record_before s (binary_search 8 s a).place))))
  where
    by_shape : (f : Option ℕ) (n : ℕ) (t : Told ℕ)
        → without_probes (unless f (reported n t)) ≡ unless (first_fault f none) t
    by_shape none n t = unreported n t
    by_shape (some m) n t = refl

-- the number that an answer reports is the one put to it
reports : (n : ℕ) (t : Told ℕ) (p : Probed) → reported n t ≡ value p → n ≡ p.probes
reports n (value t) p e = cc
reports n nothing p e = cc
reports n (refused why) p e = cc

differ : (n : ℕ) (p : Probed) → refused n ≡ value p → ⊥
differ n p e = let z : ◌≡◌ {A = ℕ} 0 1 = cc in omega arith

pub quick-probes : (present : Bool) (s : List ℕ) (a : ℕ) (p : Probed) → quick_spec present s a ≡ value p → p.probes ≤ 21
unfolding quick_spec
quick-probes false s a p e = omega (arith, reports 0 (value a) p e)
quick-probes true s a p e = by_shape (omap_shape s) refl
  where
    by_shape : (f : Option ℕ) → omap_shape s ≡ f → p.probes ≤ 21
    by_shape none g =
        let t = fitted (moved a (record_before s (binary_search 8 s a).place)) in
        let q : reported (binary_search 8 s a).probes t ≡ value p = rw g at e in
        omega (arith, reports (binary_search 8 s a).probes t p q, within-21 s a (sym g))
    by_shape (some n) g = absurd (differ n p (rw g at e))

-- 3 is none of the numbers that a table's length, or a sum, is refused with
number-3 : (n : ℕ) → some n ≡ some 3 → n ≡ 3
number-3 n e = cc

shape-order : (a b : Bool) → ◌≡◌ {A = Option ℕ} (cond a (cond b none (some 2)) (some 1)) (some 3) → ⊥
shape-order true true e = let z : ◌≡◌ {A = ℕ} 0 1 = cc in omega arith
shape-order true false e = omega (arith, number-3 2 e)
shape-order false b e = omega (arith, number-3 1 e)

sum-order : (n : ℕ) (m : Option ℕ) → reported n (fitted m) ≡ refused 3 → ⊥
sum-order n none e = differ 3 (record { translation = none; probes = n }) (sym e)
sum-order n (some t) e = by-fit (leb t 4294967295) e
  where
    by-fit : (f : Bool) → reported n (cond f (value t) (refused 4)) ≡ refused 3 → ⊥
    by-fit true g = differ 3 (record { translation = some t; probes = n }) (sym g)
    by-fit false g = let z : ◌≡◌ {A = ℕ} 4 3 = cc in omega arith

pub quick-order : (present : Bool) (s : List ℕ) (a : ℕ) → quick_spec present s a ≡ refused 3 → ⊥
unfolding quick_spec shape_fault
quick-order false s a e = differ 3 (record { translation = some a; probes = 0 }) (sym e)
quick-order true s a e = by_shape (omap_shape s) refl
  where
    by_shape : (f : Option ℕ) → omap_shape s ≡ f → ⊥
    by_shape none g =
        sum-order (binary_search 8 s a).probes (moved a (record_before s (binary_search 8 s a).place)) (rw g at e)
    by_shape (some n) g =
        let q : refused n ≡ refused 3 = rw g at e in
        let z : n ≡ 3 = cc in
        shape-order (eqb (length s % 8) 0) (leb (length s / 8) 1048576) (g ∙ ap some z)
