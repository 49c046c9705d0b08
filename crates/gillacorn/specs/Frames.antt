-- What the face shows of frames.
use Rattle.std.specs.Prelude.{ℕ, Bool, true, false, cond}
use Rattle.std.proofs.Math.Option.{Option, none, some}
use Rattle.lent.specs.Paper.{Told, value, nothing, refused}
use Rattle.framedata.specs.Frame.{Frame}
use Rattle.framedata.specs.Step.{Stepped, at_start}
use Rattle.framedata.specs.declared.cursor.FrameCursor.{FrameCursor}
use Rattle.gillacorn.specs.Code.{code_of}
use Rattle.gillacorn.specs.declared.code.ValueAnswer.{ValueAnswer}
use Rattle.gillacorn.specs.declared.frames.Frame as face
use Rattle.gillacorn.specs.declared.frames.FrameAnswer.{FrameAnswer}
use Rattle.gillacorn.specs.declared.frames.FrameCursorAnswer.{FrameCursorAnswer}
use Rattle.gillacorn.specs.declared.frames.FrameStepAnswer.{FrameStepAnswer}

-- what may be missing, as a mark and a number that is 0 where it is missing
abbrev pub is_there : Option ℕ → Bool
is_there none = false
is_there (some n) = true

abbrev pub or0 : Option ℕ → ℕ
or0 none = 0
or0 (some n) = n

-- a frame in the numbers of the face's struct
abbrev pub frame_shown : Frame → face.Frame
frame_shown f =
    record {
      ty = f.ty;
      code_start = f.code_start;
      code_size = f.code_size;
      locals_size = f.locals_size;
      params_size = f.params_size;
      prolog_size = f.prolog_size;
      saved_regs_size = f.saved_regs_size;
      has_structured_eh = f.has_structured_eh;
      has_cpp_eh = f.has_cpp_eh;
      is_function_start = f.is_function_start;
      uses_base_pointer = f.uses_base_pointer;
      has_max_stack_size = is_there f.max_stack_size;
      has_program = is_there f.program;
      max_stack_size = or0 f.max_stack_size;
      program = or0 f.program;
    }

-- all zeros where there is no frame to give
abbrev pub no_frame : face.Frame
no_frame =
    record {
      ty = 0;
      code_start = 0;
      code_size = 0;
      locals_size = 0;
      params_size = 0;
      prolog_size = 0;
      saved_regs_size = 0;
      has_structured_eh = false;
      has_cpp_eh = false;
      is_function_start = false;
      uses_base_pointer = false;
      has_max_stack_size = false;
      has_program = false;
      max_stack_size = 0;
      program = 0;
    }

abbrev pub frame_or0 : Told Frame → face.Frame
frame_or0 (value f) = frame_shown f
frame_or0 nothing = no_frame
frame_or0 (refused n) = no_frame

abbrev pub frame_answer : Told Frame → FrameAnswer
frame_answer t = record { code = code_of t; frame = frame_or0 t }

abbrev pub cursor_or0 : Told FrameCursor → FrameCursor
cursor_or0 (value c) = c
cursor_or0 nothing = at_start
cursor_or0 (refused n) = at_start

abbrev pub frame_cursor_answer : Told FrameCursor → FrameCursorAnswer
frame_cursor_answer t = record { code = code_of t; cursor = cursor_or0 t }

-- a step's answer and the cursor that it hands back
abbrev pub frame_step_answer : Stepped → FrameStepAnswer
frame_step_answer s = record { code = code_of s.answer; frame = frame_or0 s.answer; cursor = s.cursor }

-- 1 for yes, 0 for no
abbrev pub yes_answer : Told Bool → ValueAnswer
yes_answer (value b) = record { code = 0; value = cond b 1 0 }
yes_answer nothing = record { code = 255; value = 0 }
yes_answer (refused n) = record { code = n; value = 0 }
