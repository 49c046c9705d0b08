use mathlib.Core.Path.{ap}
use native.Mathlib.Omega.{arith}
use lib.ListN.{length}
use Rattle.report.specs.Text.{lines}
use Rattle.report.specs.Frames.{frame_line}
use Rattle.report.specs.Iteration.{yielded}
use Rattle.framedata.specs.Frame.{told_frame}
use Rattle.report.proofs.Pages.{going_more, going_last}
use Rattle.report.proofs.frames.frame_lines.Goals as goal

pub loop-frame-preserved-in-Ok : goal.loop-frame-preserved-in-Ok
unfolding lines
loop-frame-preserved-in-Ok c =
    let next = rw c.in-Ok.is at c.in-Some.ensures.steps in
    let line = c.frame_line.ensures in
    record {
      going = going_more (frame_line (told_frame c.in-Ok.frame)) _ c.loop-frame.invariant.going
          (ap (λ l. lines frame_line (yielded l)) next) line.wrote;
      small = omega (arith, line.upper_bound, c.loop-frame.invariant.small, ap length next);
    }

pub loop-frame-preserved : goal.loop-frame-preserved
loop-frame-preserved c =
    let next = rw c.in_default.is at c.in-Some.ensures.steps in
    record {
      going = rw next at c.loop-frame.invariant.going;
      small = omega (arith, c.loop-frame.invariant.small, ap length next);
    }

pub returns-clause-wrote : goal.returns-clause-wrote
unfolding lines
returns-clause-wrote c =
    going_last (omega (arith, c.loop-frame.invariant.small)) (rw c.in-None.ensures.steps.0 at c.loop-frame.invariant.going)
