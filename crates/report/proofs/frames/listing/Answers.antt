use mathlib.Core.Path.{ap, ◌∙◌}
use native.Mathlib.Omega.{arith}
use lib.ListN.{length}
use Rattle.lent.specs.Table.{bytes_of}
use Rattle.report.specs.Iteration.{yielded}
use Rattle.report.proofs.Pages.{put_both}
use Rattle.report.proofs.Writing.{places-most}
use Rattle.report.proofs.Yields.{counted_all}
use Rattle.report.proofs.frames.listing.Goals as goal

pub frame_lines-requires : goal.frame_lines-requires
frame_lines-requires c =
    let t = c.args.table in
    let all = counted_all (bytes_of t.old) (bytes_of t.new) c.in_ok-n.n c.in_ok-n.ensures in
    omega (arith, ap length c.new.ensures ∙ all.answers, all.few, c.put.ensures.wrote.place, c.put.ensures.kept)

pub numbered-requires : goal.numbered-requires
numbered-requires c =
    let t = c.args.table in
    let n = c.in_ok-n.n in
    let all = counted_all (bytes_of t.old) (bytes_of t.new) n c.in_ok-n.ensures in
    omega (
      arith,
      ap length c.new.ensures ∙ all.answers,
      all.few,
      c.put.ensures.wrote.place,
      c.put.ensures.kept,
      c.frame_lines.ensures.wrote.kept,
      c.frame_lines.ensures.upper_bound,
      places-most 3 n (omega (arith, all.few)),
    )

pub returns : goal.returns
returns c =
    let t = c.args.table in
    let all = counted_all (bytes_of t.old) (bytes_of t.new) c.in_ok-n.n c.in_ok-n.ensures in
    rw (all.told, all.number)
    (put_both c.put.ensures
    (put_both (rw (ap yielded c.new.ensures ∙ all.yields) at c.frame_lines.ensures.wrote) c.numbered.ensures))
