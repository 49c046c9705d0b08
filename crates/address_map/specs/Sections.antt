-- From an address to a section and an offset in it, and back.
use Rattle.std.specs.Prelude.{ℕ, zero, suc, ◌+◌, ◌-◌, ◌/◌, cond, List, [], ◌∷◌, length, ltb, leb}
use Rattle.std.proofs.Math.Option.{Option, none, some}
use Rattle.lent.specs.Paper.{Told, value, nothing, unless, fitted}
use Rattle.lent.specs.Table.{section_shape}
use Rattle.pe.specs.Header.{header_at, headers}
use Rattle.pe.specs.Extent.{extent}
use Rattle.pe.specs.declared.extent.ExtentBy.{ExtentBy}
use Rattle.pe.specs.declared.header.ImageSectionHeader.{ImageSectionHeader}
-- a section by its number from 1, and an offset in it
pub use Rattle.address_map.specs.declared.sections.Offset.{Offset}

abbrev pub in_section : ℕ → ℕ → Offset
in_section n o = record { section = n; offset = o }

-- the walk over the headers from place i on, while they begin at or before the address: the first whose extent holds it
unfoldable pub walk : ExtentBy → ℕ → ℕ → List ImageSectionHeader → Told Offset
walk by a i [] = nothing
walk by a i (h ∷ l) =
    cond (leb h.virtual_address a)
    (cond (ltb (a - h.virtual_address) (extent by h))
    (value (in_section (i + 1) (a - h.virtual_address)))
    (walk by a (i + 1) l))
    nothing

-- address to section: 1, 2, none, or the section and the offset; no order is demanded
unfoldable pub section_spec : ExtentBy → List ℕ → ℕ → Told Offset
section_spec by s a = unless (section_shape s) (walk by a 0 (headers s))

-- where an offset in a section lies, as an unbounded number: nowhere in section 0 or past the last
abbrev pub placed : List ℕ → ℕ → ℕ → Option ℕ
placed s zero o = none
placed s (suc i) o = cond (ltb i (length s / 40)) (some ((header_at s i).virtual_address + o)) none

-- section to address: 1, 2, none, 4, or the address; the offset is not compared with the section's size
unfoldable pub address_spec : List ℕ → Offset → Told ℕ
address_spec s x = unless (section_shape s) (fitted (placed s x.section x.offset))
