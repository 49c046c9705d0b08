-- Parts of a bundle behind marks, as C lends them.
-- Assumes nothing.
use Rattle.bundle.proofs.Lent.{parts-as}

-- what the face's write needs, whose parts are lent behind marks
pub ruleset marked_parts = (parts-as)
