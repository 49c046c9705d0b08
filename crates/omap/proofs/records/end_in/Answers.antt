use mathlib.Core.Path.{◌∙◌}
use native.Mathlib.Omega.{arith}
use Rattle.omap.proofs.Walking.{ends_next, ends_last}
use Rattle.omap.proofs.records.end_in.Goals as goal

pub returns-then-last-i : goal.returns-then-last-i
returns-then-last-i c =
    let a = c.args in
    ends_last a.table.now a.b a.last c.requires.1 (omega arith) a.i (omega arith)

pub returns-else-last-i : goal.returns-else-last-i
returns-else-last-i c =
    let a = c.args in
    c.u32_at.ensures ∙ ends_next a.table.now a.b a.last c.requires.1 a.i (omega arith)
