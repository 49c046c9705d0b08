-- What `record_spec` and `lookup_spec` answer, from what the code's tests found.
-- Assumes nothing.
use mathlib.Core.Path.{◌≡◌, refl, sym, ap, ◌∙◌}
use Prim.Native.Nat.{ℕ, zero, suc, ◌+◌, ◌-◌, ◌/◌, ◌≤◌, ◌<◌}
use native.Mathlib.Omega.{arith}
use mathlib.Core.Bool.{true, false}
use mathlib.Core.List.{List}
use mathlib.Core.Option.{none, some}
use lib.ListN.{length}
use borrow.Author.Tests.{le-leb, lt-leb, le-ltb, lt-ltb, eq-eqb, ne_eqb}
use Rattle.lent.specs.Paper.{value, nothing, refused, fitted}
use Rattle.lent.specs.Table.{omap_shape}
use Rattle.lent.specs.Order.{FirstAbove, rising, keys, omap_fault}
use Rattle.lent.specs.Search.{binary_search}
use Rattle.lent.proofs.Search.{first_above}
use Rattle.omap.specs.Records.{Entry, entry_at, records, holder_of, moved, single}
use Rattle.omap.specs.Lookup.{record_spec, lookup_spec}
use Rattle.omap.specs.Quick.{record_before}
use Rattle.omap.proofs.Last.{in_order}
use Rattle.lent.proofs.Last as last

module _ (s : List ℕ) (i : ℕ) where
  pub record-refused : (n : ℕ) → some n ≡ omap_shape s → refused n ≡ record_spec s i
  unfolding record_spec
  record-refused n e = rw (← e)

  module _ (good : none ≡ omap_shape s) where
    pub record-given : i < length s / 8 → value (entry_at s i) ≡ record_spec s i
    unfolding record_spec
    record-given h = rw (← good, lt-ltb i (length s / 8) h)

    pub record-none : length s / 8 ≤ i → nothing ≡ record_spec s i
    unfolding record_spec
    record-none h = rw (← good, le-ltb i (length s / 8) h)

-- the record just before the first one above the address holds it
pub found : (s : List ℕ) (a k : ℕ) → 0 < k → FirstAbove 8 s a k → holder_of a (records s) ≡ some (entry_at s (k - 1))
unfolding records
found s a k pos u = last.found (λ (x : Entry). x.source) (entry_at s) 8 s a (λ j. refl) k pos u

pub found_none : (s : List ℕ) (a : ℕ) → FirstAbove 8 s a 0 → holder_of a (records s) ≡ none
unfolding records
found_none s a u = last.found_none (λ (x : Entry). x.source) (entry_at s) 8 s a (λ j. refl) u

-- in a table in order, the record just before the place that a search ends at holds the address
pub holder : (s : List ℕ) (a : ℕ) → rising (keys 8 s) ≡ true
    → record_before s (binary_search 8 s a).place ≡ holder_of a (records s)
holder s a r = by_place (binary_search 8 s a).place (first_above 8 s a r)
  where
    by_place : (k : ℕ) → FirstAbove 8 s a k → record_before s k ≡ holder_of a (records s)
    by_place zero u = sym (found_none s a u)
    by_place (suc k) u =
        ap (λ (j : ℕ). some (entry_at s j)) (omega arith) ∙ sym (found s a (suc k) (omega arith) u)

module _ (s : List ℕ) (a : ℕ) where
  pub look-absent : value a ≡ lookup_spec false s a
  unfolding lookup_spec
  look-absent = refl

  pub look-refused : (n : ℕ) → some n ≡ omap_fault s → refused n ≡ lookup_spec true s a
  unfolding lookup_spec
  look-refused n e = rw (← e)

  pub look-good : none ≡ omap_fault s
      → fitted (moved a (record_before s (binary_search 8 s a).place)) ≡ lookup_spec true s a
  unfolding lookup_spec single
  look-good e = rw (← e, holder s a (in_order s (sym e)))

-- what the record just before a place makes of an address
module _ (s : List ℕ) (a : ℕ) where
  pub before-first : (k : ℕ) → k ≡ 0 → nothing ≡ fitted (moved a (record_before s k))
  unfolding moved
  before-first k e = rw e

  module _ (k : ℕ) (pos : 0 < k) where
    abbrev e : Entry
    e = entry_at s (k - 1)

    before-some : record_before s k ≡ some e
    before-some = let n : k ≡ suc (k - 1) = omega arith in ap (record_before s) n

    pub before-zero : e.target ≡ 0 → nothing ≡ fitted (moved a (record_before s k))
    unfolding moved
    before-zero z = rw (before-some, eq-eqb e.target 0 z)

    module _ (z : e.target ≡ 0 → ⊥) where
      pub before_at : a - e.source + e.target ≤ 4294967295
          → value (a - e.source + e.target) ≡ fitted (moved a (record_before s k))
      unfolding moved
      before_at h = rw (
        before-some,
        ne_eqb e.target 0 z,
        le-leb
            (a - e.source + e.target) 4294967295 h,
      )

      pub before-large : 4294967295 < a - e.source + e.target → refused 4 ≡ fitted (moved a (record_before s k))
      unfolding moved
      before-large h = rw (
        before-some,
        ne_eqb e.target 0 z,
        lt-leb
            (a - e.source + e.target) 4294967295 h,
      )
