use Prim.Native.Nat.{◌-◌}
use mathlib.Core.Path.{◌≡◌, sym, subst}
use native.Mathlib.Omega.{arith}
use Rattle.lent.specs.Order.{FirstAbove}
use Rattle.lent.proofs.Search.{found-above}
use Rattle.omap.proofs.Last.{in_order}
use Rattle.omap.proofs.Starts.{start-empty, start-before, start-record}
use Rattle.omap.proofs.cursor.Cursor.start.Goals as goal

pub returns-then-b-a : goal.returns-then-b-a
returns-then-b-a c =
    let a = c.args in
    rw c.in-Some.is (start-empty c.in-Some.records.now a.a a.b c.in_ok-check.ensures (omega arith))

pub entry_at-requires : goal.entry_at-requires
entry_at-requires c =
    let a = c.args in
    let s = c.in-Some.records.now in
    let found = c.binary_search-place in
    let above = found-above 8 s a.a (in_order s (sym c.in_ok-check.ensures)) found.result found.ensures in
    omega (arith, above, c.in-Some-checked_sub.ensures)

pub returns-in-None : goal.returns-in-None
returns-in-None c =
    let a = c.args in
    let s = c.in-Some.records.now in
    let found = c.binary_search-place in
    let above = found-above 8 s a.a (in_order s (sym c.in_ok-check.ensures)) found.result found.ensures in
    let none : found.result.place ≡ 0 = omega (arith, c.in-None.ensures) in
    rw (c.in-Some.is, none) (start-before s a.a a.b c.in_ok-check.ensures (omega arith) (subst (FirstAbove 8 s a.a) none above))

pub returns-in-Some-checked_sub : goal.returns-in-Some-checked_sub
returns-in-Some-checked_sub c =
    let a = c.args in
    let s = c.in-Some.records.now in
    let found = c.binary_search-place in
    let above = found-above 8 s a.a (in_order s (sym c.in_ok-check.ensures)) found.result found.ensures in
    let at : c.in-Some-checked_sub.at ≡ found.result.place - 1 = omega (arith, c.in-Some-checked_sub.ensures) in
    rw (c.in-Some.is, c.entry_at.ensures, at)
    (start-record s a.a a.b c.in_ok-check.ensures (omega arith) found.result.place (omega (arith, c.in-Some-checked_sub.ensures)) above)
