use Prim.Native.Nat.{◌+◌, ◌*◌, ◌≤◌}
use lib.ListN.{length}
use Rattle.report.specs.Text.{lines}
use Rattle.report.specs.Frames.{frame_line}
use Rattle.report.specs.Iteration.{iteration_left, yielded}
use Rattle.report.proofs.Pages.{Going}
use Rattle.report.proofs.frames.frame_lines.Given as goal

abbrev pub invariant-loop-frame : goal.invariant-loop-frame
invariant-loop-frame l = record {
  going : Going (lines frame_line (yielded (iteration_left l.fn.frames))) l.initial.page
      (lines frame_line (yielded (iteration_left l.frame-iterator))) l.page;
  small : l.page.at + 80 * length (iteration_left l.frame-iterator)
      ≤ l.initial.page.at + 80 * length (iteration_left l.fn.frames);
}
