use mathlib.Core.Path.{sym, ap, ◌∙◌}
use native.Mathlib.Omega.{arith}
use Rattle.omap.specs.Turned.{turned_by}
use Rattle.omap.proofs.Turns.{next-record, next-end}
use Rattle.omap.proofs.cursor.pull.Goals as goal

pub returns-then-place-table : goal.returns-then-place-table
returns-then-place-table c =
    let a = c.args in
    c.turn.ensures ∙ rw c.entry_at.ensures (ap turned_by (sym (next-record a.table.now a.c (omega arith))))

pub returns-else-place-table : goal.returns-else-place-table
returns-else-place-table c =
    let a = c.args in
    c.turn-else-place-table.ensures ∙ ap turned_by (sym (next-end a.table.now a.c (omega arith)))
