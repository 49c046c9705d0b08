-- What functions of this crate hand each other; no promise of a public operation cites it.
use Rattle.pe.specs.Header.{Field, VirtualSize, SizeOfRawData}
use Rattle.pe.specs.declared.extent.ExtentBy.{ExtentBy}
use Rattle.pe.specs.declared.extent.ExtentBy.TheVariants.{MemorySize, RawSize}

-- the field that is the extent, unless it is 0
abbrev pub size_field : ExtentBy → Field
size_field MemorySize = VirtualSize
size_field RawSize = SizeOfRawData
