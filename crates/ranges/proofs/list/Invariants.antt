use Rattle.omap.specs.Ahead.{ahead}
use Rattle.ranges.proofs.Listing.{Listing}
use Rattle.ranges.proofs.list.Given as goal

abbrev pub invariant-loop-k : goal.invariant-loop-k
invariant-loop-k l = Listing (ahead l.window.pieces) (ahead l.pieces) l.initial.out l.out l.k
