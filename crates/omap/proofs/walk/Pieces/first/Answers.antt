use Prim.Native.Nat.{◌/◌, ◌<◌, max}
use lib.ListN.{length}
use mathlib.Core.Path.{refl, ap, ◌∙◌}
use native.Mathlib.Omega.{arith}
use Rattle.omap.proofs.Walking.{none_after, walk-zero, walk-empty, walk-found}
use Rattle.omap.proofs.walk.Pieces.first.Goals.{then-mapped+else-from-end, else-mapped}
use Rattle.omap.proofs.walk.Pieces.first.Goals as goal

pub returns-then-from-end : goal.returns-then-from-end
returns-then-from-end c =
    let p = c.args.self in
    let s = c.in-Some.table.now in
    let until = (rw c.in-Some.is at p.until) refl in
    let j = c.loop-place.place in
    rw (c.in-Some.is, c.u32_at-source.ensures, c.u32_at-target.ensures) (walk-found s p.a p.b j
    (omega (arith, until.within)) p.next c.loop-place.invariant.1 c.max-from.result c.end_in-end.result
    (c.max-from.ensures ∙ ap (max p.a) c.u32_at-source.ensures) c.end_in-end.ensures (omega arith)
    (λ z. c.if-mapped.true (omega arith)) c.loop-place.invariant.0 (omega arith))

pub loop-place-preserved : goal.loop-place-preserved
loop-place-preserved c =
    let p = c.args.self in
    let s = c.in-Some.table.now in
    let until = (rw c.in-Some.is at p.until) refl in
    let j = c.loop-place.place in
    let here : j < length s / 8 = omega (arith, until.within) in
    let same = c.loop-place.invariant.1 in (
      omega arith,
      elim c.if-mapped.branch [
        | then-mapped+else-from-end w ↦
            walk-empty s p.a p.b j here p.next same w.max-from.result w.end_in-end.result
            (w.max-from.ensures ∙ ap (max p.a) w.u32_at-source.ensures) w.end_in-end.ensures (omega arith)
        | else-mapped w ↦ walk-zero s p.a p.b j here p.next same (omega arith)
      ],
    )

pub returns : goal.returns
returns c =
    let p = c.args.self in
    let s = c.in-Some.table.now in
    let until = (rw c.in-Some.is at p.until) refl in
    let order = rw c.in-Some.is at p.in_order in
    rw c.in-Some.is (c.loop-place.invariant.1 ∙ none_after s p.b p.last until order p.a c.loop-place.place (omega arith))
