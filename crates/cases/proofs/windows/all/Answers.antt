use mathlib.Core.Path.{refl}
use Rattle.cases.proofs.Opened.{windows}
use Rattle.cases.proofs.windows.all.Goals as goal

-- The last case by its name, which a case that is taken out would take along.
pub shows-requires-4 : goal.shows-requires-4
unfolding windows
shows-requires-4 c = (refl, refl)
