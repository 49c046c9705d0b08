use mathlib.Core.Path.{ap, ◌∙◌}
use Prim.Native.Nat.{◌+◌, ◌<◌, ◌≤◌}
use native.Mathlib.Omega.{arith}
use lib.ListN.{length, length-append, get_or}
use Rattle.std.specs.Prelude.{None}
use Rattle.lent.proofs.Wrote.{wrote-both, left-last, left-room, left-more}
use Rattle.bundle.specs.Layout.{span_from, joined, spans_from, fields, all_fields}
use Rattle.bundle.specs.Writing.{part_lent, parts_of}
use Rattle.bundle.proofs.Lengths.{length_fields, six-fields}
use Rattle.bundle.proofs.Lent.{bytes-lent, parts_left, none_left, joined-left, fields-left}
use Rattle.bundle.proofs.writer.put_trailer.Goals as goal

pub span_from-requires : goal.span_from-requires
span_from-requires c =
    let l = c.in_order-part-items.result in
    let i = c.loop-part.part-index in
    let inside : i < length l = omega (arith, ap length c.in_order-part-items.ensures) in
    let more = ap length (joined-left l i inside) ∙ length-append _ (joined (parts_left l (i + 1))) in
    rw (← (bytes-lent (get_or l i None))) (omega (arith, more))

pub put_span-next-requires : goal.put_span-next-requires
put_span-next-requires c =
    let l = c.in_order-part-items.result in
    let i = c.loop-part.part-index in
    let inside : i < length l = omega (arith, ap length c.in_order-part-items.ensures) in
    let here = span_from c.loop-part.start (part_lent (get_or l i None)) in
    let room = left-room (fields here) _ c.loop-part.invariant.1 (fields-left l i inside c.loop-part.start)
    (omega (arith, six-fields (parts_of c.args.parts))) in
    omega (arith, room, length_fields here)

pub loop-part-preserved : goal.loop-part-preserved
loop-part-preserved c =
    let l = c.in_order-part-items.result in
    let i = c.loop-part.part-index in
    let inside : i < length l = omega (arith, ap length c.in_order-part-items.ensures) in
    let more = ap length (joined-left l i inside) ∙ length-append _ (joined (parts_left l (i + 1))) in
    let bytes = ap length c.bytes_or_none.ensures in (
      omega (arith, more, bytes),
      rw bytes
          (left-more _ _ c.loop-part.invariant.1 (fields-left l i inside c.loop-part.start)
          (rw c.span_from.ensures at c.put_span-next.ensures.wrote)),
    )

pub put_u32-end-requires : goal.put_u32-end-requires
unfolding spans_from all_fields
put_u32-end-requires c =
    let l = c.in_order-part-items.result in
    let past : length l ≤ c.loop-part.part-index = omega (arith, ap length c.in_order-part-items.ensures) in
    let done = rw (none_left l c.loop-part.part-index past) at c.loop-part.invariant.1 in
    omega (arith, done, six-fields (parts_of c.args.parts))

pub put_bytes-requires : goal.put_bytes-requires
unfolding spans_from all_fields
put_bytes-requires c =
    let l = c.in_order-part-items.result in
    let past : length l ≤ c.loop-part.part-index = omega (arith, ap length c.in_order-part-items.ensures) in
    let done = rw (none_left l c.loop-part.part-index past) at c.loop-part.invariant.1 in
    omega (arith, done, six-fields (parts_of c.args.parts))

pub returns : goal.returns
unfolding spans_from all_fields
returns c =
    let l = c.in_order-part-items.result in
    let past : length l ≤ c.loop-part.part-index = omega (arith, ap length c.in_order-part-items.ensures) in
    let done = rw (none_left l c.loop-part.part-index past) at c.loop-part.invariant.1 in
    let within : c.loop-part.next ≤ length c.args.out.now = omega (arith, done, six-fields (parts_of c.args.parts)) in
    wrote-both (left-last within done) (wrote-both c.put_u32-end.ensures.wrote c.put_bytes.ensures)
