use mathlib.Core.Path.{◌≡◌}
use Rattle.std.specs.Slice.Iter.{chunks_exact_rest, chunks_exact_size}
use Rattle.report.specs.Window.{pair_lines}
use Rattle.report.proofs.Pages.{Going}
use Rattle.report.proofs.window.pair_lines.Given as goal

abbrev pub invariant-loop-pair : goal.invariant-loop-pair
invariant-loop-pair l = record {
  going : Going (pair_lines l.pairs) l.initial.page (pair_lines (chunks_exact_rest l.pair-iterator)) l.page;
  by-two : chunks_exact_size l.pair-iterator ≡ 2;
}
