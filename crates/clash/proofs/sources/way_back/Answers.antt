use mathlib.Core.Path.{sym, ap, ◌∙◌}
use mathlib.Core.List.{List}
use native.Mathlib.Omega.{arith}
use Rattle.omap.specs.Window.{Piece}
use Rattle.clash.specs.Clash.{least_two}
use Rattle.clash.specs.Shared.{sources_in}
use Rattle.clash.proofs.Answers.{back-given}
use Rattle.clash.proofs.sources.way_back.Goals as goal

pub returns : goal.returns
returns c =
    let a = c.args in
    let over = c.in_ok-window.ensures.1 in
    let order = rw over.of at c.in_ok-window.window.pieces.in_order in
    c.walk_back.ensures
    ∙ ap (λ (l : List Piece). least_two (sources_in a.t l)) (sym over.all)
    ∙ back-given a.table.now a.a a.b order c.in_ok-window.ensures.0 (omega arith) a.t
