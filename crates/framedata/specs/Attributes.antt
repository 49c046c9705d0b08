-- The attributes of an old frame: five values in the bits of one u16.
use Rattle.std.specs.Prelude.{ℕ, ◌/◌, ◌%◌, Bool}
use Rattle.lent.specs.Words.{is_set}
use Rattle.framedata.specs.declared.attributes.FrameType.{FrameType}
use Rattle.framedata.specs.declared.attributes.FrameType.TheVariants.{Unknown, FPO, Trap}
use Rattle.framedata.specs.declared.attributes.FrameType.TheVariants.{TSS, Standard, FrameData}
use Rattle.framedata.specs.declared.attributes.Attributes as code

-- the number of each frame type, as the Rust has it
abbrev pub type_number : FrameType → ℕ
type_number Unknown = 255
type_number FPO = 0
type_number Trap = 1
type_number TSS = 2
type_number Standard = 3
type_number FrameData = 4

pub record Attributes : Type 0 where
  pub ty : ℕ
  pub prolog_size : ℕ
  pub saved_regs : ℕ
  pub has_seh : Bool
  pub uses_base_pointer : Bool

-- The bits, by the Rust's masks: prolog in 0 to 3, saved registers in 8 to 10, SEH in 9, base pointer in 10, type in 14
-- and 15.
-- What asks for attributes cites this name and `Attributes::from`, and not the bits.
unfoldable pub attributes : ℕ → Attributes
attributes word =
    record {
      ty = word / 16384;
      prolog_size = word % 16;
      saved_regs = word / 256 % 8;
      has_seh = is_set 512 word;
      uses_base_pointer = is_set 1024 word;
    }

abbrev pub told_attributes : code.Attributes → Attributes
told_attributes a =
    record {
      ty = type_number a.ty;
      prolog_size = a.prolog_size;
      saved_regs = a.saved_regs;
      has_seh = a.has_seh;
      uses_base_pointer = a.uses_base_pointer;
    }
