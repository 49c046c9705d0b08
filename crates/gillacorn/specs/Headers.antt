-- What the face shows of section headers and their flags.
use Rattle.std.specs.Prelude.{ℕ}
use Rattle.lent.specs.Paper.{Told}
use Rattle.pe.specs.Header.{header_or0}
use Rattle.pe.specs.Flags.{has, image_scn_cnt_code, image_scn_cnt_initialized_data}
use Rattle.pe.specs.Flags.{image_scn_cnt_uninitialized_data, image_scn_lnk_other, image_scn_lnk_info}
use Rattle.pe.specs.Flags.{image_scn_lnk_remove, image_scn_lnk_comdat, image_scn_no_defer_spec_exc}
use Rattle.pe.specs.Flags.{image_scn_gprel, image_scn_mem_purgeable, image_scn_mem_locked}
use Rattle.pe.specs.Flags.{image_scn_mem_preload, image_scn_lnk_nreloc_ovfl, image_scn_mem_discardable}
use Rattle.pe.specs.Flags.{image_scn_mem_not_cached, image_scn_mem_not_paged, image_scn_mem_shared}
use Rattle.pe.specs.Flags.{image_scn_mem_execute, image_scn_mem_read, image_scn_mem_write}
use Rattle.pe.specs.declared.header.ImageSectionHeader.{ImageSectionHeader}
use Rattle.gillacorn.specs.Code.{code_of}
use Rattle.gillacorn.specs.declared.headers.HeaderAnswer.{HeaderAnswer}
use Rattle.gillacorn.specs.declared.headers.Flags.{Flags}

-- a header beside its code; all zeros where there is none to give
abbrev pub header_answer : Told ImageSectionHeader → HeaderAnswer
header_answer t = record { code = code_of t; header = header_or0 t }

-- each flag of the characteristics, by the PE format's name of its bit
abbrev pub flags_of : ℕ → Flags
flags_of x =
    record {
      executable = has image_scn_cnt_code x;
      initialized_data = has image_scn_cnt_initialized_data x;
      uninitialized_data = has image_scn_cnt_uninitialized_data x;
      other = has image_scn_lnk_other x;
      info = has image_scn_lnk_info x;
      remove = has image_scn_lnk_remove x;
      comdat = has image_scn_lnk_comdat x;
      defer_speculative_exceptions = has image_scn_no_defer_spec_exc x;
      global_pointer_relative = has image_scn_gprel x;
      purgeable = has image_scn_mem_purgeable x;
      locked = has image_scn_mem_locked x;
      preload = has image_scn_mem_preload x;
      lnk_nreloc_ovfl = has image_scn_lnk_nreloc_ovfl x;
      discardable = has image_scn_mem_discardable x;
      not_cached = has image_scn_mem_not_cached x;
      not_paged = has image_scn_mem_not_paged x;
      shared = has image_scn_mem_shared x;
      execute = has image_scn_mem_execute x;
      read = has image_scn_mem_read x;
      write = has image_scn_mem_write x;
    }
