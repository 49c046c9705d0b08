use mathlib.Core.Path.{refl}
use Rattle.cases.proofs.Opened.{bundles}
use Rattle.cases.proofs.bundles.all.Goals as goal

-- The last cases of each kind by their names, which a case that is taken out would take along.
pub refuses-requires-4 : goal.refuses-requires-4
unfolding bundles
refuses-requires-4 c = refl

pub writes-requires-2 : goal.writes-requires-2
unfolding bundles
writes-requires-2 c = (refl, refl)
