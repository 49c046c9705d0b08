-- RFC 3629's grammar as it stands. proofs/Grammar.antt shows that `utf8` is true of its texts and of no other.
use Rattle.std.specs.Prelude.{◌≡◌, ◌⊎◌, ℕ, true, List, [], ◌∷◌, ◌++◌}
use Rattle.utf8.specs.Utf8.{Range, holds, UTF8-char}

-- one of the alternatives
abbrev pub Among : List Range → List (List Range) → Type 0
Among form [] = ⊥
Among form (x ∷ l) = (form ≡ x) ⊎ Among form l

-- the bytes lie in the ranges, one in each
pub data Fit : List Range → List ℕ → Type 0 where
  done : Fit [] []
  byte : {r : Range} {rs : List Range} {b : ℕ} {l : List ℕ} → holds r b ≡ true → Fit rs l → Fit (r ∷ rs) (b ∷ l)

-- UTF8-octets = *( UTF8-char )
pub data Text : List ℕ → Type 0 where
  end : Text []
  char : {form : List Range} {c l : List ℕ} → Among form UTF8-char → Fit form c → Text l → Text (c ++ l)
