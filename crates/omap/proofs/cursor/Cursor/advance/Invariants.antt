use Rattle.omap.proofs.Turns.{walk}
use Prim.Native.Nat.{◌+◌, ◌-◌, ◌/◌, min}
use mathlib.Core.Path.{◌≡◌}
use lib.ListN.{length}
use Rattle.std.specs.Prelude.{is_some}
use Rattle.lent.specs.Table.{bytes_of}
use Rattle.omap.specs.Records.{rest}
use Rattle.omap.specs.Step.{step_spec}
use Rattle.omap.proofs.cursor.Cursor.advance.Given as goal

abbrev pub invariant-loop-self : goal.invariant-loop-self
invariant-loop-self l = step_spec (is_some l.fn.table) (bytes_of l.fn.table) l.initial.self ≡ walk l.initial.self
    (rest l.records l.self.place) l.self

abbrev pub decreases-loop-self : goal.decreases-loop-self
decreases-loop-self l = (length l.records / 8 - l.self.place) + min 1 (l.self.end - l.self.address)
