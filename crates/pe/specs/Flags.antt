-- The flags of a section header, and the alignment that some of them hold. Names and bits are those of winnt.h's
-- IMAGE_SCN_ constants, as src/pe.rs of pdb 0.8.0 has them; which method asks for which flag is src/pe.rs alone.
use Rattle.std.specs.Prelude.{ℕ, ◌-◌, ◌^◌, ◌/◌, ◌%◌, Bool, cond, ◌&&◌, leb, eqb}
use Rattle.std.specs.Prelude.{Option as Maybe, Some, None}
use Rattle.lent.specs.Paper.{Told, value, nothing}
use Rattle.lent.specs.Words.{is_set}

pub data Flag : Type 0 where
  image_scn_type_no_pad : Flag
  image_scn_cnt_code : Flag
  image_scn_cnt_initialized_data : Flag
  image_scn_cnt_uninitialized_data : Flag
  image_scn_lnk_other : Flag
  image_scn_lnk_info : Flag
  image_scn_lnk_remove : Flag
  image_scn_lnk_comdat : Flag
  image_scn_no_defer_spec_exc : Flag
  image_scn_gprel : Flag
  image_scn_mem_purgeable : Flag
  image_scn_mem_locked : Flag
  image_scn_mem_preload : Flag
  image_scn_lnk_nreloc_ovfl : Flag
  image_scn_mem_discardable : Flag
  image_scn_mem_not_cached : Flag
  image_scn_mem_not_paged : Flag
  image_scn_mem_shared : Flag
  image_scn_mem_execute : Flag
  image_scn_mem_read : Flag
  image_scn_mem_write : Flag

-- winnt.h, IMAGE_SECTION_HEADER: the bit of each flag, as the number that has it alone
abbrev pub bit : Flag → ℕ
bit image_scn_type_no_pad = 0x00000008
bit image_scn_cnt_code = 0x00000020
bit image_scn_cnt_initialized_data = 0x00000040
bit image_scn_cnt_uninitialized_data = 0x00000080
bit image_scn_lnk_other = 0x00000100
bit image_scn_lnk_info = 0x00000200
bit image_scn_lnk_remove = 0x00000800
bit image_scn_lnk_comdat = 0x00001000
bit image_scn_no_defer_spec_exc = 0x00004000
bit image_scn_gprel = 0x00008000
bit image_scn_mem_purgeable = 0x00020000
bit image_scn_mem_locked = 0x00040000
bit image_scn_mem_preload = 0x00080000
bit image_scn_lnk_nreloc_ovfl = 0x01000000
bit image_scn_mem_discardable = 0x02000000
bit image_scn_mem_not_cached = 0x04000000
bit image_scn_mem_not_paged = 0x08000000
bit image_scn_mem_shared = 0x10000000
bit image_scn_mem_execute = 0x20000000
bit image_scn_mem_read = 0x40000000
bit image_scn_mem_write = 0x80000000

-- a flag is set in the characteristics x
abbrev pub has : Flag → ℕ → Bool
has f x = is_set (bit f) x

-- the bits 0x00F00000, as a number below 16
abbrev pub align_bits : ℕ → ℕ
align_bits x = x / 0x00100000 % 16

-- src/pe.rs, `alignment`: of the bits 0x00F00008, 0x00100000 to 0x00E00000 alone give 1, 2, 4 to 8192; 0x8 alone gives
-- 1; all else none
unfoldable pub alignment_spec : ℕ → Told ℕ
alignment_spec x =
    cond (has image_scn_type_no_pad x)
    (cond (eqb (align_bits x) 0) (value 1) nothing)
    (cond (leb 1 (align_bits x) && leb (align_bits x) 14) (value (2 ^ (align_bits x - 1))) nothing)

-- the alignment, as the paper's answer
abbrev pub told_alignment : Maybe ℕ → Told ℕ
told_alignment (Some n) = value n
told_alignment None = nothing
