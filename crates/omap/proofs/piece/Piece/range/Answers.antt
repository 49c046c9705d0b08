use native.Mathlib.Omega.{arith}
use Rattle.omap.specs.Told.{told_piece}
use Rattle.omap.proofs.Pieces.{fits-shown}
use Rattle.omap.proofs.piece.Piece.range.Goals as goal

pub overflow_cast-result : goal.overflow_cast-result
overflow_cast-result c = let here = fits-shown (told_piece c.args.self) c.requires in omega (arith, here.0)

pub overflow_cast-result-2 : goal.overflow_cast-result-2
overflow_cast-result-2 c =
    let here = fits-shown (told_piece c.args.self) c.requires in omega (arith, here.1, c.beside_start.ensures)
