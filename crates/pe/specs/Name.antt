-- The name of a section, by `name` of src/pe.rs; a table that is refused or too short holds no name.
use Rattle.std.specs.Prelude.{ℕ, zero, suc, List, []}
use Rattle.lent.specs.Paper.{Told, value, nothing, refused}
use Rattle.utf8.specs.Text.{before_zero, if_utf8}
use Rattle.pe.specs.declared.header.ImageSectionHeader.{ImageSectionHeader}
use Rattle.pe.specs.Header.{header_spec}

-- the name that a header holds, and the empty part where there is no header
abbrev pub name_of : Told ImageSectionHeader → List ℕ
name_of (value h) = if_utf8 (before_zero h.name)
name_of nothing = []
name_of (refused n) = []

-- the name of a section by its number, which counts from 1
unfoldable pub name_spec : List ℕ → ℕ → List ℕ
name_spec s zero = []
name_spec s (suc i) = name_of (header_spec s i)
