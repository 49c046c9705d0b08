use Rattle.ranges.proofs.Draining.{Drains}
use Rattle.ranges.proofs.reader.drain.Given as goal

abbrev pub invariant-loop-entry : goal.invariant-loop-entry
invariant-loop-entry l = Drains l.table l.a l.b l.window.count l.initial.out l.out l.entry l.reader
