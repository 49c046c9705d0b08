use mathlib.Core.Path.{ap}
use native.Mathlib.Omega.{arith}
use Rattle.lent.specs.declared.searches.Searched.{Searched}
use Rattle.omap.proofs.Probing.{within-21}
use Rattle.omap.proofs.lookups.quick_lookup.Goals as goal

pub overflow_cast-probes : goal.overflow_cast-probes
overflow_cast-probes c =
    let few = within-21 c.in-Some.records.now c.args.address c.in_ok-shape.ensures in
    omega (arith, few, ap (λ (r : Searched). r.probes) c.binary_search-found.ensures)
