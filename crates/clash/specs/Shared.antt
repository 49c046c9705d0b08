-- The same by pieces: what the crate's own functions hand each other. No public promise cites this file.
use Rattle.std.specs.Prelude.{ℕ, zero, suc, ◌+◌, ◌-◌, ◌≤◌, ◌≡◌, cond, ◌&&◌, List, [], ◌∷◌, leb, ltb, Option as Maybe, Some, None}
use Rattle.std.proofs.Math.Option.{Option, none, some}
use Rattle.lent.specs.Words.{or_else, put}
use Rattle.omap.specs.Records.{rest}
use Rattle.omap.specs.Window.{Piece, pieces}
use Rattle.clash.specs.Clash.{Pair, paired_or}
use Rattle.clash.specs.declared.shared.Shared.{Shared}

-- the address of a piece that goes to t
unfoldable pub source_in : ℕ → Piece → Option ℕ
source_in t p = cond (leb p.to t && ltb t (p.to + p.size)) (some (p.at + (t - p.to))) none

-- the addresses of some pieces that go to t
unfoldable pub sources_in : ℕ → List Piece → List ℕ
sources_in t [] = []
sources_in t (p ∷ l) = put (source_in t p) (sources_in t l)

-- the first of n targets from t on that has a source in some pieces, and its first source there
unfoldable pub first_shared : List Piece → ℕ → ℕ → Option Pair
first_shared l t zero = none
first_shared l t (suc n) = paired_or t (sources_in t l) (first_shared l (suc t) n)

-- a target of a piece, as the piece's address that goes there
abbrev pub from_piece : Piece → Option Pair → Option Pair
from_piece p none = none
from_piece p (some m) = some (record { first = p.at + (m.first - p.to); second = m.second })

-- the first address of some pieces that shares its target with one of a later piece, and the first such later one
unfoldable pub clash_of : List Piece → Option Pair
clash_of [] = none
clash_of (p ∷ l) = or_else (from_piece p (first_shared l p.to p.size)) (clash_of l)

abbrev pub told_shared : Maybe Shared → Option Pair
told_shared None = none
told_shared (Some m) = some (record { first = m.target; second = m.source })

-- the least shared target found so far, if it is below the end of the search
abbrev pub found_below : ℕ → Shared → Option Pair
found_below end best = cond (ltb best.target end) (some (record { first = best.target; second = best.source })) none

-- r is the best of `best` and of record i: with the records after it, searched up to r, it gives what those from i on
-- gave
pub record Better (s : List ℕ) (b i from : ℕ) (best r : Shared) : Type 0 where
  pub low : from ≤ r.target
  pub high : r.target ≤ best.target
  pub adds : (end : ℕ) → best.target ≤ end
      → or_else (first_shared (pieces 0 b (rest s i)) from (best.target - from)) (found_below end best)
      ≡ or_else (first_shared (pieces 0 b (rest s (i + 1))) from (r.target - from)) (found_below end r)
