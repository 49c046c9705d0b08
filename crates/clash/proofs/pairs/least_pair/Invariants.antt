use mathlib.Core.Path.{◌≡◌}
use mathlib.Core.Bool.{true}
use lib.ListN.{length}
use Rattle.std.specs.Prelude.{is_some}
use Rattle.omap.specs.Ahead.{ahead}
use Rattle.clash.specs.Shared.{clash_of}
use Rattle.clash.proofs.pairs.least_pair.Given as goal

abbrev pub invariant-loop-piece : goal.invariant-loop-piece
invariant-loop-piece l = record {
  present : is_some l.later.table ≡ true;
  same : clash_of (ahead l.window) ≡ clash_of (ahead l.later);
}

abbrev pub decreases-loop-piece : goal.decreases-loop-piece
decreases-loop-piece l = length (ahead l.later)
