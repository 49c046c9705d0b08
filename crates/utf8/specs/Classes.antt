-- The class of a byte, as functions of this crate hand it on. No public promise cites this file.
-- RFC 3629's ranges cut the bytes into parts: a part begins where a range begins, and where one has just ended. No
-- range tells the bytes of one part from each other: they are a class, and it goes by the first of them.
use Rattle.std.specs.Prelude.{◌≡◌, ℕ, suc, max, ◌<◌, cond, get_or, leb}
use mathlib.Core.List.{List, [], ◌∷◌, flatten}
use Rattle.utf8.specs.Utf8.{Range, UTF8-char}

-- where ranges begin, and where they have just ended
abbrev pub cuts : List Range → List ℕ
cuts [] = []
cuts (r ∷ rs) = r.low ∷ suc r.high ∷ cuts rs

-- the last of some places that is not after b
abbrev pub last_up_to : ℕ → List ℕ → ℕ
last_up_to b [] = 0
last_up_to b (c ∷ cs) = cond (leb c b) (max c (last_up_to b cs)) (last_up_to b cs)

unfoldable pub class_of : ℕ → ℕ
class_of b = last_up_to b (cuts (flatten UTF8-char))

-- the rule of a table of classes: each byte has its own
abbrev pub Classed : List ℕ → Type 0
Classed table = (b : ℕ) → b < 256 → get_or table b 0 ≡ class_of b
