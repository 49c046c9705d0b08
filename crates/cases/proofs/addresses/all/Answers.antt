use mathlib.Core.Path.{refl}
use Rattle.cases.proofs.Opened.{addresses}
use Rattle.cases.proofs.addresses.all.Goals as goal

-- The last cases of each kind by their names, which a case that is taken out would take along.
pub lies-requires : goal.lies-requires
unfolding addresses
lies-requires c = refl

pub locates-requires-8 : goal.locates-requires-8
unfolding addresses
locates-requires-8 c = refl
