use mathlib.Core.Path.{ap}
use mathlib.Core.Bool.{not}
use Rattle.gillacorn.specs.declared.frames.FrameAnswer.{FrameAnswer}
use Rattle.cases.proofs.Opened.{frames}
use Rattle.cases.proofs.frames.attributes.Goals as goal

-- The last case by its name, which a case that is taken out would take along.
pub expect-requires-6 : goal.expect-requires-6
unfolding frames
expect-requires-6 c = ap (λ (x : FrameAnswer). not x.frame.uses_base_pointer) c.gillacorn_old_frame-told.ensures
