use Prim.Native.Nat.{◌≤◌}
use mathlib.Core.Path.{◌≡◌}
use Rattle.omap.specs.Records.{rest}
use Rattle.omap.specs.Window.{pieces}
use Rattle.omap.proofs.walk.Pieces.first.Given as goal

abbrev pub invariant-loop-place : goal.invariant-loop-place
invariant-loop-place l =
    (l.self.next ≤ l.place) × (pieces l.self.a l.self.b (rest l.table l.self.next) ≡ pieces l.self.a l.self.b (rest l.table l.place))
