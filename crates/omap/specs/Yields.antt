-- A cursor stepped to its end.
use Rattle.std.specs.Prelude.{ℕ, zero, suc, Bool, List, [], ◌∷◌}
use Rattle.lent.specs.Paper.{Told, value, nothing, refused, unless, and_then}
use Rattle.omap.specs.Window.{Piece}
use Rattle.omap.specs.Output.{sum_fault, flat}
use Rattle.omap.specs.Step.{Stepped, piece, done, refused_at, step_spec}
use Rattle.omap.specs.declared.cursor.Cursor.{Cursor}

-- a piece as a pair, before what the next cursor yields; nothing after done; a refusal
abbrev pub yielded : Stepped → (Cursor → Told (List ℕ)) → Told (List ℕ)
yielded (piece start end c) on = and_then (on c) (λ (l : List ℕ). value (start ∷ (end ∷ l)))
yielded (done c) on = value []
yielded (refused_at n c) on = refused n

-- what a cursor yields, step after step, until it is done: its pieces as pairs, or the refusal that it meets; none if n
-- steps do not do
unfoldable pub yields : Bool → List ℕ → ℕ → Cursor → Told (List ℕ)
yields present s zero c = nothing
yields present s (suc n) c = yielded (step_spec present s c) (yields present s n)

-- the pieces of a window as pairs, or 4 if one does not fit
unfoldable pub entries : List Piece → Told (List ℕ)
entries l = unless (sum_fault l) (value (flat l))
