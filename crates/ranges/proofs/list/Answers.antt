use mathlib.Core.Path.{◌∙◌}
use native.Mathlib.Omega.{arith}
use Rattle.std.specs.Prelude.{is_some}
use Rattle.lent.specs.Table.{bytes_of}
use Rattle.omap.specs.Ahead.{ahead}
use Rattle.omap.specs.Told.{told_piece}
use Rattle.ranges.proofs.Listing.{listed-out, listing-first, listing-last, some-left, gives-one, next-fits}
use Rattle.ranges.proofs.Listing.{listing_more}
use Rattle.ranges.proofs.list.Goals as goal

pub loop-k-init : goal.loop-k-init
loop-k-init c =
    let w = c.in_ok-window.window in
    listing-first (ahead w.pieces) c.args.out.now w.fitting (omega (arith, w.counted))

pub unwrap-piece-requires : goal.unwrap-piece-requires
unwrap-piece-requires c =
    let w = c.in_ok-window.window in
    let p = c.loop-k.pieces in
    gives-one p c.next.result c.next.new.self c.next.ensures.steps
    (some-left (ahead w.pieces) (ahead p) c.args.out.now c.loop-k.out c.loop-k.k c.loop-k.invariant (omega (arith, w.counted)))

pub range-requires : goal.range-requires
range-requires c =
    let steps = rw c.unwrap-piece.ensures at c.next.ensures.steps in
    next-fits (ahead c.in_ok-window.window.pieces) (ahead c.loop-k.pieces) c.args.out.now c.loop-k.out c.loop-k.k
    c.loop-k.invariant (told_piece c.unwrap-piece.result) (ahead c.next.new.self) steps.0

pub bounds-out-k : goal.bounds-out-k
bounds-out-k c =
    let w = c.in_ok-window.window in omega (arith, w.counted, c.loop-k.invariant.room)

pub loop-k-preserved : goal.loop-k-preserved
loop-k-preserved c =
    let steps = rw c.unwrap-piece.ensures at c.next.ensures.steps in
    rw c.range.ensures (listing_more (ahead c.in_ok-window.window.pieces) (ahead c.loop-k.pieces) c.args.out.now c.loop-k.out
    c.loop-k.k c.loop-k.invariant (told_piece c.unwrap-piece.result) (ahead c.next.new.self) steps.0)

pub returns-clause-output : goal.returns-clause-output
returns-clause-output c =
    let a = c.args in
    let w = c.in_ok-window.window in
    let begun = c.in_ok-window.ensures in
    listing-last (ahead w.pieces) (ahead c.loop-k.pieces) a.out.now c.loop-k.out c.loop-k.k c.loop-k.invariant
    (omega (arith, w.counted))
    ∙ listed-out (is_some a.table) (bytes_of a.table) a.a a.b a.out.now (ahead w.pieces) w.count begun.1.all begun.0 w.counted
    (omega arith)
