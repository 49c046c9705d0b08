use mathlib.Core.Path.{refl}
use Rattle.cases.proofs.Opened.{frames}
use Rattle.cases.proofs.frames.begun.Goals as goal

-- The last cases of each kind by their names, which a case that is taken out would take along.
pub begins-requires-4 : goal.begins-requires-4
unfolding frames
begins-requires-4 c = refl

pub yields-requires-4 : goal.yields-requires-4
unfolding frames
yields-requires-4 c = refl
