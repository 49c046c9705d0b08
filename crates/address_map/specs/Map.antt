-- The tables of an address map, as the paths take them.
use Rattle.std.specs.Prelude.{ℕ, List, is_some}
use Rattle.lent.specs.Table.{bytes_of}
use Rattle.address_map.specs.Paths.{actual}
use Rattle.address_map.specs.declared.map.AddressMap.{AddressMap}

-- the sections of the actual side
abbrev pub actual_of : AddressMap → List ℕ
actual_of map =
    actual (is_some map.original_sections) (bytes_of map.original_sections) (is_some map.transformed_sections) (bytes_of map.transformed_sections)
