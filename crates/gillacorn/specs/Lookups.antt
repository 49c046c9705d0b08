-- What the face shows of records and of quick lookups.
use Rattle.std.specs.Prelude.{ℕ}
use Rattle.std.proofs.Math.Option.{Option, none, some}
use Rattle.lent.specs.Paper.{Told, value, nothing, refused}
use Rattle.omap.specs.declared.lookups.Entry.{Entry}
use Rattle.omap.specs.Quick.{Probed}
use Rattle.gillacorn.specs.declared.lookups.RecordAnswer.{RecordAnswer}
use Rattle.gillacorn.specs.declared.lookups.QuickAnswer.{QuickAnswer}

abbrev pub record_answer : Told Entry → RecordAnswer
record_answer (value e) = record { code = 0; source = e.source; target = e.target }
record_answer nothing = record { code = 255; source = 0; target = 0 }
record_answer (refused n) = record { code = n; source = 0; target = 0 }

abbrev pub probed_answer : ℕ → Option ℕ → QuickAnswer
probed_answer n (some t) = record { code = 0; value = t; probes = n }
probed_answer n none = record { code = 255; value = 0; probes = n }

-- none has its probes too; a refusal has 0 there
abbrev pub quick_answer : Told Probed → QuickAnswer
quick_answer (value p) = probed_answer p.probes p.translation
quick_answer nothing = record { code = 255; value = 0; probes = 0 }
quick_answer (refused n) = record { code = n; value = 0; probes = 0 }
