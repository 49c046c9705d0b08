use Rattle.omap.proofs.Walking.{none-below, none-rises}
use Rattle.omap.proofs.walk.Pieces.in_table.Goals as goal

pub invariant_of-result : goal.invariant_of-result
invariant_of-result c = rw c.in_default.is (record { in_order = none-rises; until = λ e. none-below c.args.b })
