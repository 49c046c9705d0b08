use mathlib.Core.Path.{sym, ◌∙◌}
use native.Mathlib.Omega.{arith}
use Rattle.omap.proofs.Turns.{part-empty, part-zero, part-some, turn-skips, turn-early, turn-piece, turn-large}
use Rattle.omap.proofs.cursor.turn.Goals as goal

pub returns-then-stop-c : goal.returns-then-stop-c
returns-then-stop-c c =
    let a = c.args in
    rw c.min-stop.ensures (turn-skips a.pulled a.place a.c
    (part-empty a.pulled a.place a.c (omega (arith, c.min-stop.ensures))))

pub returns-then-c-eq0 : goal.returns-then-c-eq0
returns-then-c-eq0 c =
    let a = c.args in
    rw c.min-stop.ensures (turn-skips a.pulled a.place a.c (part-zero a.pulled a.place a.c (omega arith)))

pub returns-then-c : goal.returns-then-c
returns-then-c c =
    let a = c.args in
    turn-early a.pulled a.place a.c (part-some a.pulled a.place a.c (omega (arith, c.min-stop.ensures)) c.if-c-eq0.false)
    (omega arith)

pub range-requires : goal.range-requires
range-requires c = sym c.fits.ensures ∙ c.if-fits.true

pub returns-then-fits : goal.returns-then-fits
returns-then-fits c =
    let a = c.args in
    let fit = rw c.min-stop.ensures at c.fits.ensures in
    rw (c.range.ensures, c.min-stop.ensures)
    (turn-piece a.pulled a.place a.c (part-some a.pulled a.place a.c (omega (arith, c.min-stop.ensures)) c.if-c-eq0.false)
    (omega arith) (sym fit ∙ c.if-fits.true))

pub returns-else-fits : goal.returns-else-fits
returns-else-fits c =
    let a = c.args in
    let fit = rw c.min-stop.ensures at c.fits.ensures in
    turn-large a.pulled a.place a.c (part-some a.pulled a.place a.c (omega (arith, c.min-stop.ensures)) c.if-c-eq0.false)
    (omega arith) (sym fit ∙ c.if-fits.false)
