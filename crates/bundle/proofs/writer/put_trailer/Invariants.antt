use mathlib.Core.Path.{◌≡◌}
use Prim.Native.Nat.{◌+◌}
use lib.ListN.{length}
use Rattle.lent.proofs.Wrote.{Left}
use Rattle.bundle.specs.Layout.{in_order, joined, spans_from, all_fields}
use Rattle.bundle.specs.Writing.{parts_of}
use Rattle.bundle.proofs.Lent.{parts_left}
use Rattle.bundle.proofs.writer.put_trailer.Given as goal

abbrev pub invariant-loop-part : goal.invariant-loop-part
invariant-loop-part l =
    (l.start + length (joined (parts_left l.part-items l.part-index)) ≡ length (joined (in_order (parts_of l.fn.parts))))
    × Left (all_fields (spans_from 0 (in_order (parts_of l.fn.parts)))) l.fn.out l.fn.at
    (all_fields (spans_from l.start (parts_left l.part-items l.part-index))) l.out l.next
