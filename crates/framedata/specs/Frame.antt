-- A frame, of either table.
use Rattle.std.specs.Prelude.{ℕ, ◌*◌, Bool, false, cond, List, leb, Result, Ok, Err, Option as Maybe, Some, None}
use Rattle.std.proofs.Math.Option.{Option, none, some}
use Rattle.lent.specs.Paper.{Told, value, nothing, refused, unless, sum_number}
use Rattle.lent.specs.declared.refusal.SumRefusal.{SumRefusal}
use Rattle.lent.specs.Words.{is_set}
use Rattle.lent.specs.Table.{old_frame_shape, new_frame_shape}
use Rattle.framedata.specs.Records.{OldFrame, NewFrame, old_at, new_at}
use Rattle.framedata.specs.Attributes.{attributes, type_number}
use Rattle.framedata.specs.declared.frame.FrameData.{FrameData}
-- a number that may be missing, as the code has it
pub use Rattle.lent.specs.Words.{optional as told_optional}

-- Sizes are in bytes. Only new frames have a stack size and a program.
pub record Frame : Type 0 where
  pub ty : ℕ
  pub code_start : ℕ
  pub code_size : ℕ
  pub locals_size : ℕ
  pub params_size : ℕ
  pub prolog_size : ℕ
  pub saved_regs_size : ℕ
  pub max_stack_size : Option ℕ
  pub has_structured_eh : Bool
  pub has_cpp_eh : Bool
  pub is_function_start : Bool
  pub uses_base_pointer : Bool
  pub program : Option ℕ

-- an old record's frame: locals, params and saved registers are times 4
unfoldable pub from_old : OldFrame → Frame
from_old o =
    record {
      ty = (attributes o.attributes).ty;
      code_start = o.span.code_start;
      code_size = o.span.code_size;
      locals_size = o.locals_size * 4;
      params_size = o.params_size * 4;
      prolog_size = (attributes o.attributes).prolog_size;
      saved_regs_size = (attributes o.attributes).saved_regs * 4;
      max_stack_size = none;
      has_structured_eh = (attributes o.attributes).has_seh;
      has_cpp_eh = false;
      is_function_start = false;
      uses_base_pointer = (attributes o.attributes).uses_base_pointer;
      program = none;
    }

-- a new record's frame: the flags 1, 2, 4 are SEH, C++ EH, function start
unfoldable pub from_new : NewFrame → Frame
from_new n =
    record {
      ty = 4;
      code_start = n.span.code_start;
      code_size = n.span.code_size;
      locals_size = n.locals_size;
      params_size = n.params_size;
      prolog_size = n.prolog_size;
      saved_regs_size = n.saved_regs_size;
      max_stack_size = some n.max_stack_size;
      has_structured_eh = is_set 1 n.flags;
      has_cpp_eh = is_set 2 n.flags;
      is_function_start = is_set 4 n.flags;
      uses_base_pointer = false;
      program = some n.frame_func;
    }

-- only an old frame's locals can be too large for 32 bits
abbrev pub fits : OldFrame → Bool
fits o = leb (o.locals_size * 4) 4294967295

-- an old frame that is yielded: 4 if its locals are too large
abbrev pub told_old : OldFrame → Told Frame
told_old o = cond (fits o) (value (from_old o)) (refused 4)

-- what f makes of a record, or none where there is no record
abbrev pub from_some : {A B : Type 0} → (A → Told B) → Option A → Told B
from_some f none = nothing
from_some f (some x) = f x

-- the frame at one place of one table: 1, 2, none past the last, 4
unfoldable pub old_frame_spec : List ℕ → ℕ → Told Frame
old_frame_spec s i = unless (old_frame_shape s) (from_some told_old (old_at s i))

unfoldable pub new_frame_spec : List ℕ → ℕ → Told Frame
new_frame_spec s i = unless (new_frame_shape s) (from_some (λ (n : NewFrame). value (from_new n)) (new_at s i))

abbrev pub told_frame : FrameData → Frame
told_frame f =
    record {
      ty = type_number f.ty;
      code_start = f.code_start;
      code_size = f.code_size;
      locals_size = f.locals_size;
      params_size = f.params_size;
      prolog_size = f.prolog_size;
      saved_regs_size = f.saved_regs_size;
      max_stack_size = told_optional f.max_stack_size;
      has_structured_eh = f.has_structured_eh;
      has_cpp_eh = f.has_cpp_eh;
      is_function_start = f.is_function_start;
      uses_base_pointer = f.uses_base_pointer;
      program = told_optional f.program;
    }

-- a call's answer: the frame of a record;
abbrev pub told_decoded : Result FrameData SumRefusal → Told Frame
told_decoded (Ok f) = value (told_frame f)
told_decoded (Err why) = refused (sum_number why)

-- a frame, or none
abbrev pub told_framed : Result (Maybe FrameData) SumRefusal → Told Frame
told_framed (Ok (Some f)) = value (told_frame f)
told_framed (Ok None) = nothing
told_framed (Err why) = refused (sum_number why)
