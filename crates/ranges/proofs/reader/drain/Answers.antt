use mathlib.Core.Path.{sym, ap, ◌∙◌}
use native.Mathlib.Omega.{arith}
use lib.ListN.{length}
use Rattle.std.specs.Prelude.{is_some}
use Rattle.lent.specs.Table.{bytes_of}
use Rattle.omap.specs.Output.{all_fit}
use Rattle.ranges.proofs.Draining.{started, drains-first, drains-more, is-ok, is-there}
use Rattle.ranges.proofs.reader.drain.Goals as goal

pub unwrap-cursor-requires : goal.unwrap-cursor-requires
unwrap-cursor-requires c =
    started (is_some c.args.table) (bytes_of c.args.table) c.args.a c.args.b _ _ c.start.result c.in_ok-window.ensures.0 c.start.ensures

pub loop-entry-init : goal.loop-entry-init
loop-entry-init c =
    let a = c.args in
    let w = c.in_ok-window.window in
    let begun = c.in_ok-window.ensures in
    let begins = rw c.unwrap-cursor.ensures at c.start.ensures in
    drains-first a.table a.a a.b w.count a.out.now c.new-reader.result (omega arith) begun.0
    (ap all_fit begun.1.all ∙ w.fitting) (w.counted ∙ sym (ap length begun.1.all)) (omega arith) c.new-reader.ensures.0
    (rw c.new-reader.ensures.1 begins)

pub unwrap-requires : goal.unwrap-requires
unwrap-requires c = is-ok c.loop-entry.invariant (omega arith) c.next-step.result c.next-step.ensures

pub unwrap-range-requires : goal.unwrap-range-requires
unwrap-range-requires c =
    is-there c.loop-entry.invariant (omega arith) c.next-step.result c.next-step.ensures c.unwrap.result c.unwrap.ensures

pub loop-entry-preserved : goal.loop-entry-preserved
loop-entry-preserved c =
    drains-more c.loop-entry.invariant (omega arith) c.next-step.result c.next-step.ensures c.unwrap.result c.unwrap.ensures
    c.unwrap-range.result c.unwrap-range.ensures c.moved-reader.result c.moved-reader.ensures.0 c.moved-reader.ensures.1
