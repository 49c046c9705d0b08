-- The text that lent bytes hold: the part before the first zero, where it is UTF-8.
use Rattle.std.specs.Prelude.{ℕ, cond, List, [], ◌∷◌, eqb}
use Rattle.utf8.specs.Utf8.{utf8}

-- the part before the first zero
unfoldable pub before_zero : List ℕ → List ℕ
before_zero [] = []
before_zero (b ∷ l) = cond (eqb b 0) [] (b ∷ before_zero l)

-- a text where it is UTF-8, else the empty part
unfoldable pub if_utf8 : List ℕ → List ℕ
if_utf8 l = cond (utf8 l) l []
