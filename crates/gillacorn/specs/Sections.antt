-- What the face shows of a place in a section, and how it is told which size is the extent.
use Rattle.std.specs.Prelude.{Bool, true, false}
use Rattle.lent.specs.Paper.{Told, value, nothing, refused}
use Rattle.address_map.specs.declared.sections.Offset.{Offset}
use Rattle.pe.specs.declared.extent.ExtentBy.{ExtentBy}
use Rattle.pe.specs.declared.extent.ExtentBy.TheVariants.{MemorySize, RawSize}
use Rattle.gillacorn.specs.declared.sections.OffsetAnswer.{OffsetAnswer}

abbrev pub offset_answer : Told Offset → OffsetAnswer
offset_answer (value x) = record { code = 0; section = x.section; offset = x.offset }
offset_answer nothing = record { code = 255; section = 0; offset = 0 }
offset_answer (refused n) = record { code = n; section = 0; offset = 0 }

-- what a caller says by `by_raw_size`
abbrev pub extent_by : Bool → ExtentBy
extent_by true = RawSize
extent_by false = MemorySize
