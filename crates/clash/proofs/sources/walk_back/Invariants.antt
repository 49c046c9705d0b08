use mathlib.Core.Path.{◌≡◌}
use Rattle.omap.specs.Ahead.{ahead}
use Rattle.clash.specs.Clash.{least_two}
use Rattle.clash.specs.Kept.{so_far}
use Rattle.clash.specs.Shared.{sources_in}
use Rattle.clash.proofs.Backs.{back_after}
use Rattle.clash.proofs.sources.walk_back.Given as goal

abbrev pub invariant-loop-piece : goal.invariant-loop-piece
invariant-loop-piece l =
    least_two (sources_in l.t (ahead l.window)) ≡ back_after (so_far l.kept) (ahead l.piece-iterator) l.t
