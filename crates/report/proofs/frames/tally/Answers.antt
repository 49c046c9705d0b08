use native.Mathlib.Omega.{arith}
use Rattle.lent.specs.Table.{bytes_of}
use Rattle.report.proofs.Yields.{all_counted, few_answers}
use Rattle.report.proofs.frames.tally.Goals as goal

pub loop-frame-init : goal.loop-frame-init
loop-frame-init c =
    let t = c.args.table in
    rw (c.into_iter-frame-iterator.ensures.into_iter_gives, c.new-frame-items.ensures) (record {
      count = all_counted (bytes_of t.old) (bytes_of t.new);
      few = omega (arith, few_answers (bytes_of t.old) (bytes_of t.new));
    })
