use Rattle.omap.specs.Ahead.{ahead}
use Rattle.omap.proofs.Counting.{Counting}
use Rattle.omap.proofs.fitting.Fitting.of.Given as goal

abbrev pub invariant-loop-piece : goal.invariant-loop-piece
invariant-loop-piece l = Counting (ahead l.pieces) (ahead l.piece-iterator) l.count
