use mathlib.Core.Path.{ap, ◌∙◌}
use native.Mathlib.Omega.{arith}
use lib.ListN.{get_or}
use Rattle.std.specs.Slice.Iter.{chunks_exact_rest}
use Rattle.report.specs.Window.{pair_line, pair_lines}
use Rattle.report.proofs.Pages.{going_room, going_more, going_last}
use Rattle.report.proofs.Windows.{length-pair, pair-first, pairs-none}
use Rattle.report.proofs.window.pair_lines.Goals as goal

pub pair_line-requires : goal.pair_line-requires
pair_line-requires c =
    let pair = c.in-Some.pair.now in
    let rest = chunks_exact_rest c.next.new.self in
    let steps = c.in-Some.ensures.steps in
    let l = c.loop-pair.invariant in
    let next = ap pair_lines steps.1.0 ∙ pair-first pair rest (steps.1.1 ∙ l.by-two) in
    let x = get_or pair 0 0 in
    let y = get_or pair 1 0 in
    omega (arith, length-pair x y, going_room (pair_line x y) (pair_lines rest) l.going next c.requires)

pub loop-pair-preserved : goal.loop-pair-preserved
loop-pair-preserved c =
    let pair = c.in-Some.pair.now in
    let rest = chunks_exact_rest c.next.new.self in
    let steps = c.in-Some.ensures.steps in
    let l = c.loop-pair.invariant in
    let next = ap pair_lines steps.1.0 ∙ pair-first pair rest (steps.1.1 ∙ l.by-two) in
    record {
      going = going_more (pair_line (get_or pair 0 0) (get_or pair 1 0)) (pair_lines rest) l.going next c.pair_line.ensures;
      by-two = steps.0 ∙ l.by-two;
    }

pub returns : goal.returns
returns c =
    let l = c.loop-pair.invariant in
    let short = c.in-None.ensures.steps.1.0 in
    let last = rw (pairs-none (chunks_exact_rest c.loop-pair.pair-iterator) (omega (arith, l.by-two, short))) at l.going in
    going_last (omega (arith, last.left.places-left)) last
