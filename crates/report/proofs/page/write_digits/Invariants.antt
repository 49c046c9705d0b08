use mathlib.Core.Path.{◌≡◌}
use Prim.Native.Nat.{◌-◌}
use mathlib.Core.List.{◌++◌, reverse}
use lib.ListN.{length, take}
use Rattle.report.specs.Text.{digits}
use Rattle.report.proofs.page.write_digits.Given as goal

abbrev pub invariant-loop-digit : goal.invariant-loop-digit
invariant-loop-digit l =
    digits l.base (length l.initial.out - l.digit-index) l.left ++ reverse (take l.digit-index l.out)
    ≡ digits l.base (length l.initial.out) l.n
