-- What the window's calls answer, and what the writing one leaves in the lent output.
use Rattle.std.specs.Prelude.{ℕ, ◌+◌, ◌/◌, Bool, true, cond, ◌&&◌, List, [], ◌∷◌, length, leb, Result, Ok, Err}
use Rattle.std.proofs.Math.Option.{Option, none, some}
use Rattle.lent.specs.Order.{omap_fault}
use Rattle.lent.specs.Paper.{Told, value, first_fault, unless, number}
use Rattle.lent.specs.Room.{Written, counted, refused_as, refused_for, room_for, unless_fault, out_after}
use Rattle.omap.specs.Window.{Piece, window_pieces}
use Rattle.omap.specs.declared.windows.WindowRefusal.{WindowRefusal}
use Rattle.omap.specs.declared.windows.WindowRefusal.TheVariants as refusal

-- beside its start a piece shows its excluded end
unfoldable pub beside_start : Piece → ℕ
beside_start p = p.to + p.size

-- a piece fits if its excluded end is at most FFFFFFFF
unfoldable pub fits : Piece → Bool
fits p = leb (p.to + p.size) 4294967295

unfoldable pub all_fit : List Piece → Bool
all_fit [] = true
all_fit (p ∷ l) = fits p && all_fit l

-- 4: a piece does not fit
unfoldable pub sum_fault : List Piece → Option ℕ
sum_fault l = cond (all_fit l) none (some 4)

-- 1, 2, 3 of a table behind its mark
abbrev pub marked_fault : Bool → List ℕ → Option ℕ
marked_fault present s = cond present (omap_fault s) none

-- the refusals of a window: 1, 2, 3 of its table, then 4 of its pieces
unfoldable pub window_fault : Bool → List ℕ → ℕ → ℕ → Option ℕ
window_fault present s a b = first_fault (marked_fault present s) (sum_fault (window_pieces present s a b))

-- how many pieces a window has: 1, 2, 3, 4 or the number
unfoldable pub count_spec : Bool → List ℕ → ℕ → ℕ → Told ℕ
count_spec present s a b = unless (window_fault present s a b) (value (length (window_pieces present s a b)))

-- the pieces as pairs
unfoldable pub flat : List Piece → List ℕ
flat [] = []
flat (p ∷ l) = p.to ∷ (beside_start p ∷ flat l)

abbrev pub told_windowed : Result ℕ WindowRefusal → Written
told_windowed (Ok n) = counted n
told_windowed (Err (refusal.Table why)) = refused_as (number why)
told_windowed (Err refusal.TooLarge) = refused_as 4
told_windowed (Err (refusal.Short n)) = refused_for 5 n

-- the whole-window call, with room for so many entries: 1, 2, 3, 4, 5 or the number of pieces
unfoldable pub window_spec : Bool → List ℕ → ℕ → ℕ → ℕ → Written
window_spec present s a b room = unless_fault (window_fault present s a b)
    (room_for (length (window_pieces present s a b)) room)

-- what the call leaves in an output of u32 places, two to an entry
unfoldable pub window_out : Bool → List ℕ → ℕ → ℕ → List ℕ → List ℕ
window_out present s a b out = out_after (window_spec present s a b (length out / 2))
    (flat (window_pieces present s a b)) out
