use Prim.Native.Nat.{◌+◌}
use mathlib.Core.List.{map}
use mathlib.Core.Option.{some}
use Rattle.utf8.specs.Due.{following}
use Rattle.utf8.specs.Reading.{Reading}
use Rattle.utf8.proofs.text.length_by_class.Given as goal

abbrev pub invariant-loop-i : goal.invariant-loop-i
invariant-loop-i l = Reading l.s (some (map following l.due)) (l.from + l.i)
