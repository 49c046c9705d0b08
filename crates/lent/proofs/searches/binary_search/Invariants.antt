use Rattle.lent.proofs.Halving.{Halving}
use Rattle.lent.proofs.searches.binary_search.Given as goal

abbrev pub invariant-loop-longest : goal.invariant-loop-longest
invariant-loop-longest l = Halving l.width l.table l.address l.lo l.hi l.middle l.longest l.probes

abbrev pub decreases-loop-longest : goal.decreases-loop-longest
decreases-loop-longest l = l.longest
