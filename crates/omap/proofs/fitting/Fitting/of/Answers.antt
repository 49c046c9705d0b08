use mathlib.Core.Path.{sym, ap, ◌∙◌}
use native.Mathlib.Omega.{arith}
use lib.ListN.{length}
use Rattle.std.specs.Prelude.{is_some}
use Rattle.lent.specs.Table.{bytes_of}
use Rattle.omap.specs.Ahead.{ahead}
use Rattle.omap.specs.Output.{all_fit}
use Rattle.omap.specs.Told.{told_piece}
use Rattle.omap.proofs.Counting.{counted-few, counting-last, counting-not, counting_more}
use Rattle.omap.proofs.Outputs.{window-large, window-good}
use Rattle.omap.proofs.fitting.Fitting.of.Goals as goal

pub returns-then-not-fits : goal.returns-then-not-fits
returns-then-not-fits c =
    let a = c.args in
    let p = c.loop-piece.piece-iterator in
    let begun = c.in_ok-pieces.ensures in
    let large = counting-not (ahead c.in_ok-pieces.pieces) (ahead p) c.loop-piece.count c.loop-piece.invariant
    (told_piece c.in-Some.piece) (ahead c.next.new.self) c.in-Some.ensures.steps.0 (sym c.fits.ensures ∙ c.if-not-fits.true) in
    window-large (is_some a.table) (bytes_of a.table) a.a a.b begun.0 (ap all_fit begun.1.all ∙ large)

pub overflow_add-count : goal.overflow_add-count
overflow_add-count c =
    let a = c.args in
    let begun = c.in_ok-pieces.ensures in
    omega (
      arith,
      counted-few (is_some a.table) (bytes_of a.table) a.a a.b begun.0,
      ap length begun.1.all,
      ap length c.in-Some.ensures.steps.0,
      c.loop-piece.invariant.number,
    )

pub loop-piece-preserved : goal.loop-piece-preserved
loop-piece-preserved c =
    counting_more (ahead c.in_ok-pieces.pieces) (ahead c.loop-piece.piece-iterator) c.loop-piece.count
    c.loop-piece.invariant (told_piece c.in-Some.piece) (ahead c.next.new.self) c.in-Some.ensures.steps.0
    (sym c.fits.ensures ∙ c.if-not-fits.false)

pub invariant_of-result : goal.invariant_of-result
invariant_of-result c =
    let all = counting-last (ahead c.in_ok-pieces.pieces) (ahead c.loop-piece.piece-iterator) c.loop-piece.count
    c.loop-piece.invariant c.in-None.ensures.steps.0.0 in
    record { fitting = all.0; counted = all.1 }

pub returns : goal.returns
returns c =
    let a = c.args in
    let begun = c.in_ok-pieces.ensures in
    let all = counting-last (ahead c.in_ok-pieces.pieces) (ahead c.loop-piece.piece-iterator) c.loop-piece.count
    c.loop-piece.invariant c.in-None.ensures.steps.0.0 in
    (window-good (is_some a.table) (bytes_of a.table) a.a a.b begun.0 (ap all_fit begun.1.all ∙ all.0), begun.1)
