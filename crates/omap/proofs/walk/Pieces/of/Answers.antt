use mathlib.Core.Path.{sym}
use Rattle.omap.proofs.Last.{in_order}
use Rattle.omap.proofs.Walking.{none-rises}
use Rattle.omap.proofs.walk.Pieces.of.Goals.{in-Some+in_ok-check, in_default}
use Rattle.omap.proofs.walk.Pieces.of.Goals as goal

pub in_table-requires : goal.in_table-requires
in_table-requires c =
    elim c.match-table.branch [
      | in-Some+in_ok-check w ↦ rw w.in-Some.is (in_order w.in-Some.records.now (sym w.in_ok-check.ensures))
      | in_default w ↦ rw w.in_default.is none-rises
    ]
