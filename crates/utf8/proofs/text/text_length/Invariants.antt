use mathlib.Core.List.{[]}
use mathlib.Core.Option.{some}
use Rattle.utf8.specs.Reading.{Reading}
use Rattle.utf8.proofs.text.text_length.Given as goal

abbrev pub invariant-loop-i : goal.invariant-loop-i
invariant-loop-i l = Reading l.s (some []) l.i
