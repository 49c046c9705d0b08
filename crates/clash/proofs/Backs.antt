-- The walk of the way back, one piece at a time: the sources kept, and those of the pieces left, are all sources.
-- Assumes nothing.
use mathlib.Core.Path.{◌≡◌, refl, ap, ◌∙◌}
use Prim.Native.Nat.{ℕ}
use mathlib.Core.List.{List, [], ◌∷◌, ◌++◌, append-nil}
use Rattle.lent.specs.Paper.{Told}
use Rattle.lent.specs.Words.{put}
use Rattle.omap.specs.Window.{Piece}
use Rattle.std.specs.Prelude.{Option as Maybe, Some, None}
use Rattle.clash.specs.Clash.{Sources, least_two, told_kept}
use Rattle.clash.specs.Kept.{so_far}
use Rattle.clash.specs.declared.sources.Sources as walk
use Rattle.clash.specs.declared.sources.Sources.TheVariants.{One, Two}
use Rattle.clash.specs.Shared.{source_in, sources_in}

-- the answer, with some sources kept and some pieces left
abbrev pub back_after : List ℕ → List Piece → ℕ → Told Sources
back_after kept l t = least_two (kept ++ sources_in t l)

pub back_last : (kept : List ℕ) (l : List Piece) (t : ℕ) → l ≡ [] → back_after kept l t ≡ least_two kept
unfolding sources_in
back_last kept l t e = rw (e, append-nil kept)

-- a piece more, by what is known of the sources then kept
pub back_more : (kept more : List ℕ) (l : List Piece) (p : Piece) (rest : List Piece) (t : ℕ) → l ≡ p ∷ rest
    → ((r : List ℕ) → least_two (kept ++ put (source_in t p) r) ≡ least_two (more ++ r))
    → back_after kept l t ≡ back_after more rest t
unfolding sources_in
back_more kept more l p rest t e k = ap (λ (q : List Piece). back_after kept q t) e ∙ k (sources_in t rest)

-- what a walk has kept is its answer
pub kept-told : (kept : Maybe walk.Sources) → told_kept kept ≡ least_two (so_far kept)
unfolding least_two
kept-told None = refl
kept-told (Some (One x)) = refl
kept-told (Some (Two x y)) = refl
