use mathlib.Core.Path.{refl}
use Rattle.cases.proofs.Opened.{lookups}
use Rattle.cases.proofs.lookups.full.Goals as goal

-- The last case by its name, which a case that is taken out would take along.
pub translates-requires-8 : goal.translates-requires-8
unfolding lookups
translates-requires-8 c = refl
