-- The conversions of an address map, as paths over the steps that pdb takes.
--
--   from \ to           rva            internal rva    section offset   internal offset
--   rva                 -              cross           locate           cross, locate
--   internal rva        cross          -               cross, locate    locate
--   section offset      place          place, cross    -                place, cross, locate (*)
--   internal offset     place, cross   place           place, cross,    -
--                                                      locate (*)
--
-- `cross` goes through the OMAP: to-original from the actual side, to-transformed from the internal side. `locate` and
-- `place` use the sections of their side: for the actual side the transformed ones if they are there, else the original
-- ones; `locate` compares with the extent that the caller chooses. (*) returns its input where there are no transformed
-- sections. A path stops at the first step that gives none or is refused, so a table is checked when the path first
-- reads it.
use Rattle.std.specs.Prelude.{ℕ, Bool, cond, List}
use Rattle.lent.specs.Paper.{Told, value, and_then}
use Rattle.lent.specs.Table.{if_present}
use Rattle.omap.specs.Lookup.{lookup_spec}
use Rattle.pe.specs.declared.extent.ExtentBy.{ExtentBy}
use Rattle.address_map.specs.Sections.{Offset, section_spec, address_spec}

-- the sections of the actual side
abbrev pub actual : Bool → List ℕ → Bool → List ℕ → List ℕ
actual has_original original has_transformed transformed =
    cond has_transformed transformed (if_present has_original original)

-- cross, locate
unfoldable pub cross_locate : ExtentBy → Bool → List ℕ → List ℕ → ℕ → Told Offset
cross_locate by present omap sections a = and_then (lookup_spec present omap a) (section_spec by sections)

-- place, cross
unfoldable pub place_cross : List ℕ → Bool → List ℕ → Offset → Told ℕ
place_cross sections present omap x = and_then (address_spec sections x) (lookup_spec present omap)

-- place, cross, locate; with no transformed sections, the input
unfoldable pub place_cross_locate : ExtentBy → Bool → List ℕ → Bool → List ℕ → List ℕ → Offset → Told Offset
place_cross_locate by has_transformed from present omap to x =
    cond has_transformed (and_then (place_cross from present omap x) (section_spec by to)) (value x)
