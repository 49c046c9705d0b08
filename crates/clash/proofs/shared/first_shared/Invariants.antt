use Rattle.clash.proofs.Later.{Searching}
use Rattle.clash.proofs.shared.first_shared.Given as goal

abbrev pub invariant-loop-i : goal.invariant-loop-i
invariant-loop-i l = Searching l.table l.window.b l.from l.end l.window.next l.i l.best
