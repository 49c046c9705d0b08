use mathlib.Core.List.{flatten}
use mathlib.Core.Path.{refl}
use native.Mathlib.Omega.{arith}
use Rattle.utf8.specs.Classes.{class_of}
use Rattle.utf8.specs.declared.classes.TheConstants.{CLASSES}
use Rattle.utf8.proofs.Classed.{classed}
use Rattle.utf8.proofs.classes.class.Goals as goal

pub returns : goal.returns
unfolding class_of flatten
returns c =
    classed CLASSES (record { test = refl }) c.args.b (omega arith)
