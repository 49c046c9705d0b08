use mathlib.Core.Path.{refl}
use Rattle.cases.proofs.Opened.{lookups}
use Rattle.cases.proofs.lookups.quick.Goals as goal

-- The last case by its name, which a case that is taken out would take along.
pub found-requires-10 : goal.found-requires-10
unfolding lookups
found-requires-10 c = refl
