-- The extent of a section: the size with which an address is compared, by one of two rules.
use Rattle.std.specs.Prelude.{ℕ, cond, eqb}
use Rattle.pe.specs.declared.header.ImageSectionHeader.{ImageSectionHeader}
use Rattle.pe.specs.declared.extent.ExtentBy.{ExtentBy}
use Rattle.pe.specs.declared.extent.ExtentBy.TheVariants.{MemorySize, RawSize}

-- PE Format, Section Table: VirtualSize is the size in memory, padded with zeros beyond the raw data. Where it is 0 our
-- house rule takes the raw size. By raw size: src/omap.rs of pdb 0.8.0, `get_section_offset`.
unfoldable pub extent : ExtentBy → ImageSectionHeader → ℕ
extent MemorySize h = cond (eqb h.virtual_size 0) h.size_of_raw_data h.virtual_size
extent RawSize h = h.size_of_raw_data
