use native.Mathlib.Omega.{arith}
use Rattle.lent.specs.Words.{put}
use Rattle.omap.specs.Told.{told_piece}
use Rattle.clash.proofs.Runs.{source-below, source-past, source-here}
use Rattle.clash.proofs.sources.with_piece.Goals as goal

pub returns-then-target-piece : goal.returns-then-target-piece
unfolding put
returns-then-target-piece c = λ l. let a = c.args in rw (source-below a.t (told_piece a.piece) (omega arith))

pub returns-then-piece-target : goal.returns-then-piece-target
unfolding put
returns-then-piece-target c = λ l. let a = c.args in rw (source-past a.t (told_piece a.piece) (omega arith))

pub returns : goal.returns
unfolding put
returns c =
    λ l.
    let a = c.args in
    rw (source-here a.t (told_piece a.piece) (omega arith) (omega arith), ← c.source_of.ensures) (c.with_source.ensures l)
