-- The order of a table, by its records.
-- Assumes nothing.
use mathlib.Core.Path.{◌≡◌}
use Prim.Native.Nat.{ℕ, ◌/◌, ◌<◌}
use mathlib.Core.Bool.{true}
use mathlib.Core.List.{List, ◌∷◌}
use mathlib.Core.Option.{none}
use lib.ListN.{length}
use lib.Dec.{ltb}
use borrow.Author.Tests.{ltb-true}
use Rattle.lent.specs.Table.{omap_table}
use Rattle.lent.specs.Order.{rising_after, rising, key_at, keys, omap_fault}
use Rattle.lent.proofs.Last as last
use Rattle.lent.proofs.Logic.{and_left, and_right}
use Rattle.lent.proofs.Place.{map-listed}
use Rattle.omap.specs.Records.{Entry, entry_at, records, sources}

-- the source of the record at place j
abbrev pub src : List ℕ → ℕ → ℕ
src s j = key_at 8 s j

-- the sources of a table's records are its keys
pub sources-keys : (s : List ℕ) → sources (records s) ≡ keys 8 s
unfolding records
sources-keys s = map-listed (λ (x : Entry). x.source) (entry_at s) 0 (length s / 8)

-- a table that is not refused is in order
pub in_order : (s : List ℕ) → omap_fault s ≡ none → rising (keys 8 s) ≡ true
in_order s e = last.in_order omap_table s e

-- records in order after p: the first is above p, and the others are in order after it
module _ (p : ℕ) (x : Entry) (l : List Entry) (r : rising_after p (sources (x ∷ l)) ≡ true) where
  pub first_above : p < x.source
  unfolding rising_after
  first_above = ltb-true p x.source (and_left (ltb p x.source) (rising_after x.source (sources l)) r)

  pub rest-above : rising_after x.source (sources l) ≡ true
  unfolding rising_after
  rest-above = and_right (ltb p x.source) (rising_after x.source (sources l)) r
