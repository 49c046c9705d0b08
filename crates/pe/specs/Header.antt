-- A section header. The names, offsets and sizes of its fields are those of the table "Section Table (Section Headers)"
-- in Microsoft's PE Format. winnt.h declares the same fields as IMAGE_SECTION_HEADER, and src/pe.rs of pdb 0.8.0 reads
-- them in this order.
use Rattle.std.specs.Prelude.{ℕ, ◌+◌, ◌*◌, ◌/◌, Bool, true, false, cond, List, [], ◌∷◌, length, take, drop, ltb}
use Rattle.std.specs.Prelude.{Result, Ok, Err}
use Rattle.lent.specs.Le.{le_at}
use Rattle.lent.specs.Paper.{Told, value, nothing, refused, unless, number}
use Rattle.lent.specs.declared.refusal.Refusal.{Refusal}
use Rattle.lent.specs.Table.{listed, section_shape}
use Rattle.pe.specs.declared.header.ImageSectionHeader.{ImageSectionHeader}

pub data Field : Type 0 where
  Name : Field
  VirtualSize : Field
  VirtualAddress : Field
  SizeOfRawData : Field
  PointerToRawData : Field
  PointerToRelocations : Field
  PointerToLinenumbers : Field
  NumberOfRelocations : Field
  NumberOfLinenumbers : Field
  Characteristics : Field

pub record Span : Type 0 where
  pub offset : ℕ
  pub size : ℕ

abbrev pub span : ℕ → ℕ → Span
span o n = record { offset = o; size = n }

-- PE Format, Section Table: the offset and the size in bytes of each field
abbrev pub layout : Field → Span
layout Name = span 0 8
layout VirtualSize = span 8 4
layout VirtualAddress = span 12 4
layout SizeOfRawData = span 16 4
layout PointerToRawData = span 20 4
layout PointerToRelocations = span 24 4
layout PointerToLinenumbers = span 28 4
layout NumberOfRelocations = span 32 2
layout NumberOfLinenumbers = span 34 2
layout Characteristics = span 36 4

-- the bytes of a field of the header at place i, 40 bytes a header
abbrev pub bytes_in : List ℕ → ℕ → Field → List ℕ
bytes_in s i f = take (layout f).size (drop (40 * i + (layout f).offset) s)

-- the number that they hold, the least byte first
abbrev pub number_in : List ℕ → ℕ → Field → ℕ
number_in s i f = le_at (layout f).size s (40 * i + (layout f).offset)

-- the header at place i
unfoldable pub header_at : List ℕ → ℕ → ImageSectionHeader
header_at s i =
    record {
      name = bytes_in s i Name;
      virtual_size = number_in s i VirtualSize;
      virtual_address = number_in s i VirtualAddress;
      size_of_raw_data = number_in s i SizeOfRawData;
      pointer_to_raw_data = number_in s i PointerToRawData;
      pointer_to_relocations = number_in s i PointerToRelocations;
      pointer_to_line_numbers = number_in s i PointerToLinenumbers;
      number_of_relocations = number_in s i NumberOfRelocations;
      number_of_line_numbers = number_in s i NumberOfLinenumbers;
      characteristics = record { 0 = number_in s i Characteristics };
    }

-- all headers of a table, in order of place
abbrev pub headers : List ℕ → List ImageSectionHeader
headers s = listed (header_at s) 0 (length s / 40)

-- the header at place i of a table: refused 1 or 2, none past the last
unfoldable pub header_spec : List ℕ → ℕ → Told ImageSectionHeader
header_spec s i = unless (section_shape s) (cond (ltb i (length s / 40)) (value (header_at s i)) nothing)

-- what stands for a header where there is none to give: all zeros
abbrev pub no_header : ImageSectionHeader
no_header =
    record {
      name = 0 ∷ 0 ∷ 0 ∷ 0 ∷ 0 ∷ 0 ∷ 0 ∷ 0 ∷ [];
      virtual_size = 0;
      virtual_address = 0;
      size_of_raw_data = 0;
      pointer_to_raw_data = 0;
      pointer_to_relocations = 0;
      pointer_to_line_numbers = 0;
      number_of_relocations = 0;
      number_of_line_numbers = 0;
      characteristics = record { 0 = 0 };
    }

-- the header that an answer shows
abbrev pub header_or0 : Told ImageSectionHeader → ImageSectionHeader
header_or0 (value h) = h
header_or0 nothing = no_header
header_or0 (refused n) = no_header

-- whether there is a header, with the header, as the paper's answer
abbrev pub told_given : Result Bool Refusal → ImageSectionHeader → Told ImageSectionHeader
told_given (Ok true) h = value h
told_given (Ok false) h = nothing
told_given (Err why) h = refused (number why)
