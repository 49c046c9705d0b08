use mathlib.Core.Path.{◌≡◌}
use Prim.Native.Nat.{◌*◌, ◌≤◌}
use lib.ListN.{drop}
use Rattle.bundle.specs.Layout.{in_order}
use Rattle.bundle.specs.Reading.{touching}
use Rattle.bundle.proofs.reader.touch.Given as goal

abbrev pub invariant-loop-part : goal.invariant-loop-part
invariant-loop-part l = (l.place ≤ 8589934592 * l.part-index)
    × (touching 0 l.end (in_order l.fn.spans) ≡ touching l.place l.end (drop l.part-index l.part-items))
