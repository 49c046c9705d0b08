use mathlib.Core.Path.{refl}
use Rattle.cases.proofs.Opened.{frames}
use Rattle.cases.proofs.frames.merged.Goals as goal

-- The last case by its name, which a case that is taken out would take along.
pub yields-requires-7 : goal.yields-requires-7
unfolding frames
yields-requires-7 c = refl
