-- The walk over the headers one place at a time, and what the two steps answer.
-- Assumes nothing.
use mathlib.Core.Path.{◌≡◌, ap}
use Prim.Native.Nat.{ℕ, ◌+◌, ◌-◌, ◌/◌, ◌≤◌, ◌<◌}
use native.Mathlib.Numerals.{add-one}
use mathlib.Core.Bool.{cond}
use mathlib.Core.List.{List, ◌∷◌}
use mathlib.Core.Option.{none, some}
use lib.ListN.{length}
use lib.Dec.{ltb}
use borrow.Author.Tests.{le-leb, lt-leb, le-ltb, lt-ltb}
use Rattle.lent.specs.Paper.{value, nothing, fitted}
use Rattle.lent.specs.Table.{listed, section_table, section_shape}
use Rattle.lent.proofs.Shaped.{at_most}
use Rattle.lent.proofs.Place.{listed-step, listed-end, listed-all}
use Rattle.pe.specs.Header.{header_at}
use Rattle.pe.specs.Extent.{extent}
use Rattle.pe.specs.declared.extent.ExtentBy.{ExtentBy}
use Rattle.pe.specs.declared.header.ImageSectionHeader.{ImageSectionHeader}
use Rattle.address_map.specs.Sections.{Offset, in_section, walk, section_spec, placed, address_spec}

-- the headers from place i on
abbrev pub rest : List ℕ → ℕ → List ImageSectionHeader
rest s i = listed (header_at s) i (length s / 40 - i)

abbrev pub start : List ℕ → ℕ → ℕ
start s i = (header_at s i).virtual_address

abbrev pub extent_at : ExtentBy → List ℕ → ℕ → ℕ
extent_at by s i = extent by (header_at s i)

module _ (by : ExtentBy) (s : List ℕ) (a i : ℕ) where
  pub walk_end : length s / 40 ≤ i → walk by a i (rest s i) ≡ nothing
  unfolding walk
  walk_end h = rw (listed-end (header_at s) i (length s / 40) h)

  module _ (h : i < length s / 40) where
    first : rest s i ≡ header_at s i ∷ rest s (i + 1)
    first = listed-step (header_at s) i (length s / 40) h

    pub walk-later : a < start s i → walk by a i (rest s i) ≡ nothing
    unfolding walk
    walk-later l = rw (first, lt-leb (start s i) a l)

    module _ (b : start s i ≤ a) where
      pub walk_here : a - start s i < extent_at by s i → walk by a i (rest s i) ≡ value (in_section (i + 1) (a - start s i))
      unfolding walk
      walk_here l = rw (first, le-leb (start s i) a b, lt-ltb (a - start s i) (extent_at by s i) l)

      pub walk-on : extent_at by s i ≤ a - start s i → walk by a i (rest s i) ≡ walk by a (i + 1) (rest s (i + 1))
      unfolding walk
      walk-on l = rw (first, le-leb (start s i) a b, le-ltb (a - start s i) (extent_at by s i) l)

module _ (by : ExtentBy) (s : List ℕ) (a : ℕ) where
  pub section-good : none ≡ section_shape s → section_spec by s a ≡ walk by a 0 (rest s 0)
  unfolding section_spec
  section-good e = rw (← e) (ap (walk by a 0) (listed-all (header_at s) (length s / 40)))

module _ (s : List ℕ) (n o : ℕ) where
  abbrev x : Offset
  x = in_section n o

  module _ (good : none ≡ section_shape s) where
    address-good : address_spec s x ≡ fitted (placed s n o)
    unfolding address_spec
    address-good = rw (← good)

    module _ (i : ℕ) (e : n ≡ i + 1) where
      at_place : placed s n o ≡ cond (ltb i (length s / 40)) (some (start s i + o)) none
      at_place = rw (e, add-one)

      module _ (h : i < length s / 40) where
        pub address-at : start s i + o ≤ 4294967295 → value (start s i + o) ≡ address_spec s x
        address-at l = rw (address-good, at_place, lt-ltb i (length s / 40) h, le-leb (start s i + o) 4294967295 l)

-- a table of the right shape has few sections
pub few_sections : (s : List ℕ) → none ≡ section_shape s → length s / 40 ≤ 65535
few_sections = at_most section_table

-- one turn of the walk, and its end
pub ruleset walking = (few_sections, walk_end, walk-later, walk_here, walk-on)
