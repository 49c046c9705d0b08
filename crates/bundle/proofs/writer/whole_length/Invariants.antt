use mathlib.Core.Path.{◌≡◌}
use Prim.Native.Nat.{◌+◌, ◌≤◌, min}
use lib.ListN.{length}
use Rattle.bundle.specs.Layout.{joined, bundle_of}
use Rattle.bundle.specs.Writing.{parts_of}
use Rattle.bundle.proofs.Lent.{parts_left}
use Rattle.bundle.proofs.writer.whole_length.Given as goal

abbrev pub invariant-loop-part : goal.invariant-loop-part
invariant-loop-part l = (l.length ≤ 18446744073709551615)
    × (min (length (bundle_of (parts_of l.fn.parts))) 18446744073709551615
    ≡ min (l.length + length (joined (parts_left l.part-items l.part-index))) 18446744073709551615)
