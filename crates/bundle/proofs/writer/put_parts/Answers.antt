use mathlib.Core.Path.{ap}
use native.Mathlib.Omega.{arith}
use Prim.Native.Nat.{◌+◌, ◌<◌, ◌≤◌}
use lib.ListN.{length}
use Rattle.lent.proofs.Wrote.{left-last, left-room, left-more}
use Rattle.bundle.specs.Layout.{joined}
use Rattle.bundle.proofs.Lent.{parts_left, none_left, joined-left}
use Rattle.bundle.proofs.writer.put_parts.Goals as goal

pub put_bytes-at-requires : goal.put_bytes-at-requires
put_bytes-at-requires c =
    let l = c.in_order-part-items.result in
    let i = c.loop-part.part-index in
    let inside : i < length l = omega (arith, ap length c.in_order-part-items.ensures) in
    rw c.bytes_or_none.ensures
    (left-room _ (joined (parts_left l (i + 1))) c.loop-part.invariant (joined-left l i inside) (omega arith))

pub loop-part-preserved : goal.loop-part-preserved
loop-part-preserved c =
    let l = c.in_order-part-items.result in
    let i = c.loop-part.part-index in
    let inside : i < length l = omega (arith, ap length c.in_order-part-items.ensures) in
    left-more _ (joined (parts_left l (i + 1))) c.loop-part.invariant (joined-left l i inside)
    (rw c.bytes_or_none.ensures at c.put_bytes-at.ensures)

pub returns : goal.returns
unfolding joined
returns c =
    let l = c.in_order-part-items.result in
    let past : length l ≤ c.loop-part.part-index = omega (arith, ap length c.in_order-part-items.ensures) in
    let done = rw (none_left l c.loop-part.part-index past) at c.loop-part.invariant in
    left-last (omega (arith, done)) done
