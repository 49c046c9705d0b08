use mathlib.Core.Path.{◌≡◌, ap, ◌∙◌}
use Prim.Native.Nat.{ℕ, ◌+◌, ◌<◌, ◌≤◌, min}
use native.Mathlib.Omega.{arith}
use lib.ListN.{length, length-append}
use Rattle.bundle.specs.Layout.{joined}
use Rattle.bundle.specs.Writing.{parts_of}
use Rattle.bundle.proofs.Lengths.{length_bundle}
use Rattle.bundle.proofs.Lent.{parts_left, none_left, joined-left}
use Rattle.bundle.proofs.writer.whole_length.Goals as goal

one_more : (n part rest all sum : ℕ) → min all 18446744073709551615 ≡ min (n + (part + rest)) 18446744073709551615
    → sum ≡ min (n + part) 18446744073709551615
    → min all 18446744073709551615 ≡ min (sum + rest) 18446744073709551615
one_more n part rest all sum e f = omega arith

pub loop-part-init : goal.loop-part-init
loop-part-init c = (omega arith, rw c.in_order-part-items.ensures (omega (arith, length_bundle (parts_of c.args.parts))))

pub loop-part-preserved : goal.loop-part-preserved
loop-part-preserved c =
    let l = c.in_order-part-items.result in
    let i = c.loop-part.part-index in
    let inside : i < length l = omega (arith, ap length c.in_order-part-items.ensures) in
    let more = ap length (joined-left l i inside) ∙ length-append _ (joined (parts_left l (i + 1))) in (
      omega arith,
      one_more c.loop-part.length _ (length (joined (parts_left l (i + 1)))) _ _
          (rw more at c.loop-part.invariant.1) (rw c.bytes_or_none.ensures at c.saturating_add-length.ensures),
    )

pub returns : goal.returns
unfolding joined
returns c =
    let l = c.in_order-part-items.result in
    let past : length l ≤ c.loop-part.part-index = omega (arith, ap length c.in_order-part-items.ensures) in
    let done = rw (none_left l c.loop-part.part-index past) at c.loop-part.invariant.1 in
    omega (arith, done)
