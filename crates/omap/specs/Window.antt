-- The pieces of a window a..b, its end b excluded.
use Rattle.std.specs.Prelude.{ℕ, ◌+◌, ◌-◌, max, min, Bool, cond, not, ◌&&◌, List, [], ◌∷◌, ltb, eqb}
use Rattle.std.proofs.Math.Option.{Option, none, some}
use Rattle.lent.specs.Words.{put}
use Rattle.omap.specs.Records.{Entry, records}

-- a mapped piece: where it starts in the window, how many addresses it has, where they go
pub record Piece : Type 0 where
  pub at : ℕ
  pub size : ℕ
  pub to : ℕ

-- where the record before l ends: at the next source; the last one reaches to the end of 32 bits
unfoldable pub next_of : List Entry → ℕ
next_of [] = 4294967296
next_of (x ∷ l) = x.source

-- the part inside a..b of x's addresses, which end at e: no piece if it is empty or the target is 0
unfoldable pub piece_of : ℕ → ℕ → Entry → ℕ → Option Piece
piece_of a b x e =
    cond (ltb (max a x.source) (min b e) && not (eqb x.target 0))
    (some (record {
      at = max a x.source;
      size = min b e - max a x.source;
      to = max a
          x.source - x.source + x.target;
    }))
    none

-- the pieces, in source order; neighbours are never joined
unfoldable pub pieces : ℕ → ℕ → List Entry → List Piece
pieces a b [] = []
pieces a b (x ∷ l) = put (piece_of a b x (next_of l)) (pieces a b l)

-- what stands in for a table marked absent, as `RangeIter::identity` has it: one record that takes a to itself, so that
-- a..b is one piece, and none where a is 0
abbrev pub itself : ℕ → Entry
itself a = record { source = a; target = a }

abbrev pub identity : ℕ → List Entry
identity a = itself a ∷ []

-- the pieces of a window of a table behind its mark
abbrev pub window_pieces : Bool → List ℕ → ℕ → ℕ → List Piece
window_pieces present s a b = pieces a b (cond present (records s) (identity a))
