use Prim.Native.Nat.{◌+◌, ◌/◌, ◌≤◌}
use mathlib.Core.Path.{◌≡◌}
use lib.ListN.{length}
use Rattle.lent.specs.Table.{bytes_of}
use Rattle.report.specs.Frames.{frames_or_refusal, how_many}
use Rattle.report.specs.Iteration.{iteration_left}
use Rattle.report.proofs.Yields.{counted}
use Rattle.report.proofs.frames.tally.Given as goal

abbrev pub invariant-loop-frame : goal.invariant-loop-frame
invariant-loop-frame l = record {
  count : counted l.n (iteration_left l.frame-iterator)
      ≡ how_many (frames_or_refusal (bytes_of l.fn.table.old) (bytes_of l.fn.table.new));
  few : l.n + length (iteration_left l.frame-iterator)
      ≤ 1 + (length (bytes_of l.fn.table.old) / 16 + length (bytes_of l.fn.table.new) / 32);
}
