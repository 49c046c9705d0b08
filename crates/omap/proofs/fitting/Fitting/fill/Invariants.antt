use Rattle.omap.proofs.Filling.{Filling}
use Rattle.omap.specs.Ahead.{ahead}
use Rattle.omap.proofs.fitting.Fitting.fill.Given as goal

abbrev pub invariant-loop-i : goal.invariant-loop-i
invariant-loop-i l = Filling (ahead l.self.pieces) (ahead l.i-iterator.iter) l.initial.out l.out l.i-iterator.count
