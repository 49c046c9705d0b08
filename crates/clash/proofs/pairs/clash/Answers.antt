use mathlib.Core.Path.{sym, ap, ◌∙◌}
use native.Mathlib.Omega.{arith}
use Rattle.lent.specs.Paper.{value}
use Rattle.clash.specs.Shared.{clash_of}
use Rattle.clash.proofs.Answers.{clash-given}
use Rattle.clash.proofs.pairs.clash.Goals as goal

pub least_pair-requires : goal.least_pair-requires
least_pair-requires c = let over = c.in_ok-window.ensures.1 in rw over.of

pub returns : goal.returns
returns c =
    let a = c.args in
    let over = c.in_ok-window.ensures.1 in
    let order = rw over.of at c.in_ok-window.window.pieces.in_order in
    ap value (c.least_pair.ensures ∙ ap clash_of (sym over.all))
    ∙ clash-given a.table.now a.a a.b order c.in_ok-window.ensures.0 (omega arith)
