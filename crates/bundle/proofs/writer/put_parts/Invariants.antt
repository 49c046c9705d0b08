use Rattle.lent.proofs.Wrote.{Left}
use Rattle.bundle.specs.Layout.{in_order, joined}
use Rattle.bundle.specs.Writing.{parts_of}
use Rattle.bundle.proofs.Lent.{parts_left}
use Rattle.bundle.proofs.writer.put_parts.Given as goal

abbrev pub invariant-loop-part : goal.invariant-loop-part
invariant-loop-part l =
    Left (joined (in_order (parts_of l.fn.parts))) l.fn.out 0 (joined (parts_left l.part-items l.part-index))
    l.out l.at
