use native.Mathlib.Omega.{arith}
use lib.ListN.{length-set}
use Rattle.omap.specs.Ahead.{ahead}
use Rattle.omap.specs.Told.{told_piece}
use Rattle.omap.proofs.Filling.{filling-first, filling-last, filling-more, next-fits, room-here}
use Rattle.omap.proofs.fitting.Fitting.fill.Goals as goal

pub loop-i-init : goal.loop-i-init
loop-i-init c =
    let w = c.args.self in
    rw (c.into_iter-i-iterator.ensures.into_iter_gives, c.enumerate-i-items.ensures.source, c.enumerate-i-items.ensures.count)
    (filling-first (ahead w.pieces) c.args.out.now w.count w.fitting w.counted c.requires)

pub range-start-requires : goal.range-start-requires
range-start-requires c =
    let n = c.loop-i.i-iterator in
    next-fits (ahead c.args.self.pieces) (ahead n.iter) c.args.out.now c.loop-i.out n.count c.loop-i.invariant
    (told_piece c.in-Some.piece) (ahead c.next.new.self.iter) c.in-Some.ensures.steps.0.0

pub bounds-out-i : goal.bounds-out-i
bounds-out-i c =
    let n = c.loop-i.i-iterator in
    let here = room-here (ahead c.args.self.pieces) (ahead n.iter) c.args.out.now c.loop-i.out n.count c.loop-i.invariant
    (told_piece c.in-Some.piece) (ahead c.next.new.self.iter) c.in-Some.ensures.steps.0.0 in
    omega (arith, here, c.in-Some.ensures.steps.1)

pub bounds-out-i-in-loop-i : goal.bounds-out-i-in-loop-i
bounds-out-i-in-loop-i c =
    let n = c.loop-i.i-iterator in
    let here = room-here (ahead c.args.self.pieces) (ahead n.iter) c.args.out.now c.loop-i.out n.count c.loop-i.invariant
    (told_piece c.in-Some.piece) (ahead c.next.new.self.iter) c.in-Some.ensures.steps.0.0 in
    simp length-set (omega (arith, here, c.in-Some.ensures.steps.1))

pub loop-i-preserved : goal.loop-i-preserved
loop-i-preserved c =
    let n = c.loop-i.i-iterator in
    let steps = c.in-Some.ensures.steps in
    rw (c.range-start.ensures, steps.1, steps.2)
    (filling-more (ahead c.args.self.pieces) (ahead n.iter) c.args.out.now c.loop-i.out n.count c.loop-i.invariant
    (told_piece c.in-Some.piece) (ahead c.next.new.self.iter) steps.0.0)

pub returns : goal.returns
returns c =
    let n = c.loop-i.i-iterator in
    filling-last (ahead c.args.self.pieces) (ahead n.iter) c.args.out.now c.loop-i.out n.count c.loop-i.invariant
    c.in-None.ensures.steps.0.0.0
