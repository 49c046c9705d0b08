-- The addresses of a window one by one, and the pieces written out.
use Rattle.std.specs.Prelude.{ℕ, zero, suc, ◌+◌, ◌-◌, List, [], ◌∷◌, ◌++◌}
use Rattle.std.proofs.Math.Option.{Option}
use Rattle.lent.specs.Words.{put}
use Rattle.omap.specs.Window.{Piece}

-- n numbers from a on
unfoldable pub up_from : ℕ → ℕ → List ℕ
up_from a zero = []
up_from a (suc n) = a ∷ up_from (suc a) n

-- the addresses of a..b, b excluded
abbrev pub range : ℕ → ℕ → List ℕ
range a b = up_from a (b - a)

-- the values that f has on a list, in order; where it has none, nothing
unfoldable pub map_maybe : (ℕ → Option ℕ) → List ℕ → List ℕ
map_maybe f [] = []
map_maybe f (x ∷ l) = put (f x) (map_maybe f l)

-- where the pieces' addresses go, one by one, in order
unfoldable pub expand : List Piece → List ℕ
expand [] = []
expand (p ∷ l) = up_from p.to p.size ++ expand l

-- the pieces' lengths together
unfoldable pub total : List Piece → ℕ
total [] = 0
total (p ∷ l) = p.size + total l

-- the first n entries of a window's output, start and excluded end, written out address by address
unfoldable pub expand_entries : ℕ → List ℕ → List ℕ
expand_entries (suc n) (start ∷ (end ∷ l)) = up_from start (end - start) ++ expand_entries n l
expand_entries (suc n) (start ∷ []) = []
expand_entries (suc n) [] = []
expand_entries zero l = []
