-- The lent outputs of the cases, at entry.
use Rattle.std.specs.Prelude.{ℕ, List, [], ◌∷◌, replicate}

abbrev pub nines : List ℕ
nines = 9 ∷ 9 ∷ 9 ∷ 9 ∷ 9 ∷ 9 ∷ 9 ∷ []

-- that of the bundle's cases
abbrev pub sixty_nines : List ℕ
sixty_nines = replicate 60 9
