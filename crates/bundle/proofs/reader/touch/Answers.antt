use mathlib.Core.Path.{sym, ap, ◌∙◌}
use native.Mathlib.Omega.{arith}
use Prim.Native.Nat.{◌<◌, ◌≤◌}
use lib.ListN.{length}
use Rattle.bundle.specs.Reading.{touching}
use Rattle.bundle.proofs.Touching.{touch-absent, touch-here, touch-elsewhere, touch-end}
use Rattle.bundle.proofs.reader.touch.Goals as goal
use Rattle.bundle.proofs.reader.touch.Goals.{in-Some+else-span-place, in_default}

pub loop-part-init : goal.loop-part-init
loop-part-init c = (omega arith, ap (touching 0 c.args.end) (sym c.in_order-part-items.ensures))

pub returns-then-span-place : goal.returns-then-span-place
returns-then-span-place c =
    let l = c.in_order-part-items.result in
    let i = c.loop-part.part-index in
    let inside : i < length l = omega (arith, ap length c.in_order-part-items.ensures) in
    sym (c.loop-part.invariant.1 ∙ touch-elsewhere c.loop-part.place c.args.end i l inside c.in-Some.span c.in-Some.is
    c.if-span-place.true)

pub loop-part-preserved : goal.loop-part-preserved
loop-part-preserved c =
    let l = c.in_order-part-items.result in
    let i = c.loop-part.part-index in
    let p = c.loop-part.place in
    let inside : i < length l = omega (arith, ap length c.in_order-part-items.ensures) in
    elim c.match-part.branch [
      | in-Some+else-span-place w ↦
          let here = touch-here p c.args.end i l inside w.in-Some.span w.in-Some.is w.if-span-place.false in
          (omega arith, rw w.place-is (c.loop-part.invariant.1 ∙ here))
      | in_default w ↦
          let here = touch-absent p c.args.end i l inside w.in_default.is in
          (omega arith, rw w.place-is (c.loop-part.invariant.1 ∙ here))
    ]

pub returns : goal.returns
returns c =
    let l = c.in_order-part-items.result in
    let past : length l ≤ c.loop-part.part-index = omega (arith, ap length c.in_order-part-items.ensures) in
    sym (c.loop-part.invariant.1 ∙ touch-end c.loop-part.place c.args.end c.loop-part.part-index l past)
