-- Each promise leaves one answer: what is told of an answer says which it was. A frame is read back from it.
-- Assumes nothing.
use mathlib.Core.Path.{◌≡◌, refl, sym, ap, ◌∙◌}
use Prim.Native.Nat.{ℕ}
use mathlib.Core.Bool.{Bool, cond}
use mathlib.Core.Option.{Option, none, some}
use lib.Dec.{eqb}
use Rattle.std.specs.Prelude.{Result, Ok, Err, Option as Maybe, Some, None}
use Rattle.lent.specs.Paper.{Told, value, nothing, refused, number, told_value}
use Rattle.lent.specs.declared.refusal.Refusal.{Refusal}
use Rattle.lent.specs.declared.refusal.Refusal.TheVariants.{Length, Count, Order}
use Rattle.lent.specs.declared.refusal.SumRefusal.{SumRefusal}
use Rattle.lent.specs.declared.refusal.SumRefusal.TheVariants.{Table, TooLarge}
use Rattle.lent.proofs.Answers.{refusal, one_answer}
use Rattle.lent.proofs.Determined.{one_number, one_value}
use Rattle.framedata.specs.Attributes.{type_number}
use Rattle.framedata.specs.Frame.{Frame, told_optional, told_frame, told_framed}
use Rattle.framedata.specs.Step.{Stepped, told_step}
use Rattle.framedata.specs.declared.attributes.FrameType.{FrameType}
use Rattle.framedata.specs.declared.attributes.FrameType.TheVariants as type
use Rattle.framedata.specs.declared.frame.FrameData.{FrameData}
use Rattle.framedata.specs.declared.cursor.FrameCursor.{FrameCursor}
use Rattle.framedata.specs.declared.cursor.FrameStep.{FrameStep}

-- the parts of a frame
abbrev type_of : ℕ → FrameType
type_of n =
    cond (eqb n 0) type.FPO
    (cond (eqb n 1) type.Trap
    (cond (eqb n 2) type.TSS (cond (eqb n 3) type.Standard (cond (eqb n 4) type.FrameData type.Unknown))))

type-back : (x : FrameType) → type_of (type_number x) ≡ x
type-back type.Unknown = refl
type-back type.FPO = refl
type-back type.Trap = refl
type-back type.TSS = refl
type-back type.Standard = refl
type-back type.FrameData = refl

abbrev optional_of : Option ℕ → Maybe ℕ
optional_of none = None
optional_of (some n) = Some n

optional-back : (x : Maybe ℕ) → optional_of (told_optional x) ≡ x
optional-back (Some n) = refl
optional-back None = refl

abbrev data_of : Frame → FrameData
data_of f =
    record {
      ty = type_of f.ty;
      code_start = f.code_start;
      code_size = f.code_size;
      locals_size = f.locals_size;
      params_size = f.params_size;
      prolog_size = f.prolog_size;
      saved_regs_size = f.saved_regs_size;
      max_stack_size = optional_of f.max_stack_size;
      has_structured_eh = f.has_structured_eh;
      has_cpp_eh = f.has_cpp_eh;
      is_function_start = f.is_function_start;
      uses_base_pointer = f.uses_base_pointer;
      program = optional_of f.program;
    }

data-back : (x : FrameData) → data_of (told_frame x) ≡ x
data-back x = rw (type-back x.ty, optional-back x.max_stack_size, optional-back x.program)

-- an answer
abbrev framed_of : Told Frame → Result (Maybe FrameData) SumRefusal
framed_of (value f) = Ok (Some (data_of f))
framed_of nothing = Ok None
framed_of (refused n) = Err (cond (eqb n 4) TooLarge (Table (refusal n)))

framed-back : (x : Result (Maybe FrameData) SumRefusal) → framed_of (told_framed x) ≡ x
framed-back (Ok (Some f)) = ap (λ (g : FrameData). Ok (Some g)) (data-back f)
framed-back (Ok None) = refl
framed-back (Err (Table Length)) = refl
framed-back (Err (Table Count)) = refl
framed-back (Err (Table Order)) = refl
framed-back (Err TooLarge) = refl

-- a step's answer, with its cursor
abbrev step_of : Stepped → FrameStep
step_of q = record { answer = framed_of q.answer; cursor = q.cursor }

step_back : (x : FrameStep) → step_of (told_step x) ≡ x
step_back x = rw (framed-back x.answer)

-- a frame
pub one-frame : (t : Frame) (x y : FrameData) → told_frame x ≡ t → told_frame y ≡ t → x ≡ y
one-frame = one_answer told_frame data_of data-back

-- `old_frame_at`, `new_frame_at`
pub one-framed : (t : Told Frame) (x y : Result (Maybe FrameData) SumRefusal) → told_framed x ≡ t → told_framed y ≡ t
    → x ≡ y
one-framed = one_answer told_framed framed_of framed-back

-- `FrameCursor::step`
pub one-step : (t : Stepped) (x y : FrameStep) → told_step x ≡ t → told_step y ≡ t → x ≡ y
one-step = one_answer told_step step_of step_back

-- `FrameTable::start_at`
pub one-started : (t : Told FrameCursor) (x y : Result FrameCursor Refusal) → told_value number x ≡ t
    → told_value number y ≡ t → x ≡ y
one-started t x y e f = one_value number one_number x y (e ∙ sym f)

-- `FrameTable::is_empty`
pub one-emptiness : (t : Told Bool) (x y : Result Bool Refusal) → told_value number x ≡ t → told_value number y ≡ t
    → x ≡ y
one-emptiness t x y e f = one_value number one_number x y (e ∙ sym f)
