-- The sources that a walk over the pieces has kept, in order. No public promise cites this file.
use Rattle.std.specs.Prelude.{ℕ, List, [], ◌∷◌, Option as Maybe, Some, None}
use Rattle.clash.specs.declared.sources.Sources.{Sources}
use Rattle.clash.specs.declared.sources.Sources.TheVariants.{One, Two}

abbrev pub so_far_of : Sources → List ℕ
so_far_of (One x) = x ∷ []
so_far_of (Two x y) = x ∷ (y ∷ [])

abbrev pub so_far : Maybe Sources → List ℕ
so_far None = []
so_far (Some kept) = so_far_of kept
