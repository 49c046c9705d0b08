-- A window's pieces as records of start and end, and what the call leaves in a lent list of them.
use Rattle.std.specs.Prelude.{ℕ, Bool, List, map, length}
use Rattle.lent.specs.Room.{out_after}
use Rattle.omap.specs.Window.{window_pieces}
use Rattle.omap.specs.Output.{window_spec}
use Rattle.omap.specs.Told.{as_range}
use Rattle.omap.specs.declared.piece.Range.{Range}

-- what the call leaves in a lent list: an entry is a record
unfoldable pub list_out : Bool → List ℕ → ℕ → ℕ → List Range → List Range
list_out present s a b out =
    out_after (window_spec present s a b (length out)) (map as_range (window_pieces present s a b)) out
