-- The tables of specs/ hold together: each statement is computed.
-- Assumes nothing.
use mathlib.Core.Path.{◌≡◌, refl}
use Prim.Native.Nat.{ℕ, ◌+◌, ◌^◌}
use mathlib.Core.Bool.{Bool, true, ◌&&◌}
use mathlib.Core.List.{List, [], ◌∷◌, map}
use lib.Dec.{eqb}
use Rattle.lent.specs.Paper.{value, nothing}
use Rattle.pe.specs.Header.{Field, layout, Name, VirtualSize, VirtualAddress, SizeOfRawData, PointerToRawData}
use Rattle.pe.specs.Header.{PointerToRelocations, PointerToLinenumbers, NumberOfRelocations, NumberOfLinenumbers}
use Rattle.pe.specs.Header.{Characteristics}
use Rattle.pe.specs.Flags.{Flag, bit, alignment_spec, image_scn_type_no_pad, image_scn_cnt_code}
use Rattle.pe.specs.Flags.{image_scn_cnt_initialized_data, image_scn_cnt_uninitialized_data}
use Rattle.pe.specs.Flags.{image_scn_lnk_other, image_scn_lnk_info, image_scn_lnk_remove}
use Rattle.pe.specs.Flags.{image_scn_lnk_comdat, image_scn_no_defer_spec_exc, image_scn_gprel}
use Rattle.pe.specs.Flags.{image_scn_mem_purgeable, image_scn_mem_locked, image_scn_mem_preload}
use Rattle.pe.specs.Flags.{image_scn_lnk_nreloc_ovfl, image_scn_mem_discardable, image_scn_mem_not_cached}
use Rattle.pe.specs.Flags.{image_scn_mem_not_paged, image_scn_mem_shared, image_scn_mem_execute}
use Rattle.pe.specs.Flags.{image_scn_mem_read, image_scn_mem_write}

-- each field starts where the one before it ends, and the last ends at the end
abbrev tiles : ℕ → List Field → ℕ → Bool
tiles from [] end = eqb from end
tiles from (f ∷ l) end = eqb (layout f).offset from && tiles (from + (layout f).size) l end

abbrev pub fields : List Field
fields =
    Name ∷ VirtualSize ∷ VirtualAddress ∷ SizeOfRawData ∷ PointerToRawData
    ∷ PointerToRelocations ∷ PointerToLinenumbers ∷ NumberOfRelocations ∷ NumberOfLinenumbers ∷ Characteristics
    ∷ []

-- the fields fill the 40 bytes of a header
pub fields-fill : tiles 0 fields 40 ≡ true
fields-fill = refl

abbrev pub flags : List Flag
flags =
    image_scn_type_no_pad ∷ image_scn_cnt_code ∷ image_scn_cnt_initialized_data
    ∷ image_scn_cnt_uninitialized_data ∷ image_scn_lnk_other ∷ image_scn_lnk_info ∷ image_scn_lnk_remove
    ∷ image_scn_lnk_comdat ∷ image_scn_no_defer_spec_exc ∷ image_scn_gprel ∷ image_scn_mem_purgeable
    ∷ image_scn_mem_locked ∷ image_scn_mem_preload ∷ image_scn_lnk_nreloc_ovfl ∷ image_scn_mem_discardable
    ∷ image_scn_mem_not_cached ∷ image_scn_mem_not_paged ∷ image_scn_mem_shared ∷ image_scn_mem_execute
    ∷ image_scn_mem_read ∷ image_scn_mem_write
    ∷ []

-- each flag has one bit, and no two have the same
pub one-bit-each : map bit flags ≡ map (λ (k : ℕ). 2 ^ k)
    (3 ∷ 5 ∷ 6 ∷ 7 ∷ 8 ∷ 9 ∷ 11 ∷ 12 ∷ 14 ∷ 15 ∷ 17 ∷ 18 ∷ 19 ∷ 24 ∷ 25 ∷ 26 ∷ 27 ∷ 28 ∷ 29 ∷ 30 ∷ 31 ∷ [])
one-bit-each = refl

-- winnt.h's alignments, IMAGE_SCN_ALIGN_1BYTES to IMAGE_SCN_ALIGN_8192BYTES
pub alignments : map alignment_spec
    (0x00100000 ∷ 0x00200000 ∷ 0x00300000 ∷ 0x00400000 ∷ 0x00500000 ∷ 0x00600000 ∷ 0x00700000
    ∷ 0x00800000 ∷ 0x00900000 ∷ 0x00A00000 ∷ 0x00B00000 ∷ 0x00C00000 ∷ 0x00D00000 ∷ 0x00E00000 ∷ [])
    ≡ map value (1 ∷ 2 ∷ 4 ∷ 8 ∷ 16 ∷ 32 ∷ 64 ∷ 128 ∷ 256 ∷ 512 ∷ 1024 ∷ 2048 ∷ 4096 ∷ 8192 ∷ [])
unfolding alignment_spec
alignments = refl

-- IMAGE_SCN_TYPE_NO_PAD alone; none of the bits, all of the four, and both kinds; bits beside the mask count for
-- nothing
pub other-alignments : map alignment_spec
    (0x00000008 ∷ 0x00000000 ∷ 0x00F00000 ∷ 0x00100008 ∷ 0xFF0FFFF7 ∷ 0xFF5FFFF7 ∷ [])
    ≡ value 1 ∷ nothing ∷ nothing ∷ nothing ∷ nothing ∷ value 16 ∷ []
unfolding alignment_spec
other-alignments = refl
