use Prim.Native.Nat.{◌-◌, ◌/◌, ◌≤◌}
use mathlib.Core.Path.{◌≡◌}
use mathlib.Core.Bool.{◌&&◌}
use lib.ListN.{length}
use Rattle.lent.specs.Table.{listed}
use Rattle.lent.specs.Order.{rising, rising_after, key_at, keys}
use Rattle.lent.proofs.table.in_order.Given as goal

abbrev pub invariant-loop-i : goal.invariant-loop-i
invariant-loop-i l = (1 ≤ l.i)
    × ((l.i ≤ l.n) × ((l.n ≡ length l.table / l.width) × (rising
    (keys l.width l.table) ≡ (l.rises && rising_after l.before (listed (key_at l.width l.table) l.i (l.n - l.i))))))

abbrev pub decreases-loop-i : goal.decreases-loop-i
decreases-loop-i l = l.n - l.i
