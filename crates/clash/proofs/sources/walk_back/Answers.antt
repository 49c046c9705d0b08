use mathlib.Core.Path.{sym, ◌∙◌}
use native.Mathlib.Omega.{arith}
use Rattle.omap.specs.Ahead.{ahead}
use Rattle.omap.specs.Told.{told_piece}
use Rattle.clash.specs.Kept.{so_far}
use Rattle.clash.proofs.Backs.{back_last, back_more, kept-told}
use Rattle.clash.proofs.sources.walk_back.Goals as goal

pub loop-piece-preserved : goal.loop-piece-preserved
loop-piece-preserved c =
    c.loop-piece.invariant ∙ back_more (so_far c.loop-piece.kept) (so_far c.with_piece-kept.result)
    (ahead c.loop-piece.piece-iterator) (told_piece c.in-Some.piece) (ahead c.next.new.self) c.args.t
    c.in-Some.ensures.steps.0 c.with_piece-kept.ensures

pub returns : goal.returns
returns c =
    let kept = c.loop-piece.kept in
    kept-told kept
    ∙ sym (c.loop-piece.invariant ∙ back_last (so_far kept) (ahead c.loop-piece.piece-iterator) c.args.t c.in-None.ensures.steps.0.0)

pub with_piece-kept-requires : goal.with_piece-kept-requires
with_piece-kept-requires c = let found = c.in-Some.ensures.steps.1.found in omega (arith, found.inside, found.short)
