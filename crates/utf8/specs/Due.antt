-- What a text may go on with, as the code holds it, in the terms of RFC 3629's table. No public promise cites this.
use Rattle.std.specs.Prelude.{List, map, Some, None}
use Rattle.std.specs.declared.option.Option as option
use Rattle.std.proofs.Math.Option.{Option, none, some}
use Rattle.std.specs.Borrow.{Bor}
use Rattle.utf8.specs.Utf8.{Range, ◌to◌, UTF8-tail}
use Rattle.utf8.specs.declared.classes.Follow.{Follow}
use Rattle.utf8.specs.declared.classes.Follow.TheVariants as follow

-- the table's ranges of a byte that is not a character's first
abbrev pub following : Follow → Range
following follow.Any = UTF8-tail
following follow.Low = 0x80 to 0x8F
following follow.High = 0xA0 to 0xBF
following follow.NotLow = 0x90 to 0xBF
following follow.NotHigh = 0x80 to 0x9F

-- none: no byte makes it UTF-8 any more; no range: it may end here
abbrev pub told_due : option.Option (Bor (List Follow)) → Option (List Range)
told_due None = none
told_due (Some due) = some (map following due.now)
