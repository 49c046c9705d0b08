-- One step of the merged iteration over both tables.
use Rattle.std.specs.Prelude.{ℕ, ◌+◌, Bool, true, cond, List, ltb, Option as Maybe, Some, None}
use Rattle.std.proofs.Math.Option.{Option, none, some}
use Rattle.lent.specs.Paper.{Told, value, nothing, refused}
use Rattle.framedata.specs.Records.{OldFrame, NewFrame, old_at, new_at}
use Rattle.framedata.specs.Frame.{Frame, from_old, from_new, fits, told_framed}
use Rattle.framedata.specs.Tables.{shape_of_both}
use Rattle.framedata.specs.declared.cursor.FrameCursor.{FrameCursor}
use Rattle.framedata.specs.declared.cursor.Next.{Next}
use Rattle.framedata.specs.declared.cursor.Next.TheVariants as next
use Rattle.framedata.specs.declared.cursor.FrameStep.{FrameStep}

-- What comes next: an old record, a new one, or a new one with an equal old one passed over.
pub data Pick : Type 0 where
  old : OldFrame → Pick
  new : NewFrame → Pick
  both : NewFrame → OldFrame → Pick

-- the lesser code_start first; on equality the new one alone
unfoldable pub lesser : OldFrame → NewFrame → Pick
lesser o n =
    cond (ltb o.span.code_start n.span.code_start) (old o)
    (cond (ltb n.span.code_start o.span.code_start) (new n) (both n o))

-- what comes next, of two tables that may each be used up
abbrev pub pick : Option OldFrame → Option NewFrame → Option Pick
pick none none = none
pick (some o) none = some (old o)
pick none (some n) = some (new n)
pick (some o) (some n) = some (lesser o n)

-- the start of both tables
abbrev pub at_start : FrameCursor
at_start = record { old_index = 0; new_index = 0 }

-- a step's answer, and the cursor that it hands back
pub record Stepped : Type 0 where
  pub answer : Told Frame
  pub cursor : FrameCursor

-- the frame of what comes next
abbrev pub frame : Pick → Frame
frame (old o) = from_old o
frame (new n) = from_new n
frame (both n o) = from_new n

-- only an old frame can be too large
abbrev pub pick_fits : Pick → Bool
pick_fits (old o) = fits o
pick_fits (new n) = true
pick_fits (both n o) = true

-- the frame that is yielded: 4 if it is too large
abbrev pub frame_of : Pick → Told Frame
frame_of p = cond (pick_fits p) (value (frame p)) (refused 4)

-- the cursor past what is yielded; on equality both advance
abbrev pub past : FrameCursor → Pick → FrameCursor
past c (old o) = record { old_index = c.old_index + 1; new_index = c.new_index }
past c (new n) = record { old_index = c.old_index; new_index = c.new_index + 1 }
past c (both n o) = record { old_index = c.old_index + 1; new_index = c.new_index + 1 }

-- a frame hands on the next cursor; the end and a refusal hand the cursor back as it was
abbrev pub handed : FrameCursor → FrameCursor → Told Frame → Stepped
handed c next (value f) = record { answer = value f; cursor = next }
handed c next nothing = record { answer = nothing; cursor = c }
handed c next (refused why) = record { answer = refused why; cursor = c }

-- the step to what comes next; with no record left it is the end
abbrev pub step_to : FrameCursor → Option Pick → Stepped
step_to c none = handed c c nothing
step_to c (some p) = handed c (past c p) (frame_of p)

-- a refusal of a table comes first
abbrev pub unless_refused : FrameCursor → Option ℕ → Option Pick → Stepped
unless_refused c none p = step_to c p
unless_refused c (some why) p = handed c c (refused why)

unfoldable pub step_spec : List ℕ → List ℕ → FrameCursor → Stepped
step_spec s t c = unless_refused c (shape_of_both s t) (pick (old_at s c.old_index) (new_at t c.new_index))

abbrev pub told_step : FrameStep → Stepped
told_step r = record { answer = told_framed r.answer; cursor = r.cursor }

-- which table the code found to be next, at the records o and n
abbrev pub told_next : OldFrame → NewFrame → Maybe Next → Option Pick
told_next o n (Some next.Old) = some (old o)
told_next o n (Some next.New) = some (new n)
told_next o n (Some next.Both) = some (both n o)
told_next o n None = none
