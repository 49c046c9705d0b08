-- What begins a walk over the pieces of a window that is not refused. No public promise of the face cites this file.
use Rattle.std.specs.Prelude.{ℕ, ◌≡◌, List, Result, Ok, Err, Option as Maybe, is_some}
use Rattle.std.specs.Borrow.{Bor}
use Rattle.std.proofs.Math.Option.{none, some}
use Rattle.lent.specs.Paper.{sum_number}
use Rattle.lent.specs.Table.{bytes_of}
use Rattle.lent.specs.declared.refusal.SumRefusal.{SumRefusal}
use Rattle.omap.specs.Output.{window_fault}
use Rattle.omap.specs.Ahead.{GoesOver}
use Rattle.omap.specs.declared.fitting.Fitting.{Fitting}

abbrev pub Counts : Maybe (Bor (List ℕ)) → ℕ → ℕ → Result Fitting SumRefusal → Type 0
Counts table a b (Ok w) =
    (none ≡ window_fault (is_some table) (bytes_of table) a b) × GoesOver table a b w.pieces
Counts table a b (Err why) = some (sum_number why) ≡ window_fault (is_some table) (bytes_of table) a b
