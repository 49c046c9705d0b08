-- Texts at the edges of RFC 3629's ranges, and what is no text: each statement is computed.
-- Assumes nothing.
use mathlib.Core.Path.{◌≡◌, refl}
use Prim.Native.Nat.{ℕ}
use mathlib.Core.Bool.{Bool, true, not, ◌&&◌}
use mathlib.Core.List.{List, [], ◌∷◌, map}
use Rattle.utf8.specs.Utf8.{utf8, completes, after_lead}

abbrev all : List Bool → Bool
all [] = true
all (b ∷ l) = b && all l

-- .text; U+0080, U+07FF; U+0800, U+D7FF, U+E000, U+FFFF; U+10000, U+10FFFF
pub texts : all
    (map utf8
    ((0x2E ∷ 0x74 ∷ 0x65 ∷ 0x78 ∷ 0x74 ∷ [])
    ∷ (0xC2 ∷ 0x80 ∷ 0xDF ∷ 0xBF ∷ [])
    ∷ (0xE0 ∷ 0xA0 ∷ 0x80 ∷ 0xED ∷ 0x9F ∷ 0xBF ∷ []) ∷ (0xEE ∷ 0x80 ∷ 0x80 ∷ 0xEF ∷ 0xBF ∷ 0xBF ∷ [])
    ∷ (0xF0 ∷ 0x90 ∷ 0x80 ∷ 0x80 ∷ 0xF4 ∷ 0x8F ∷ 0xBF ∷ 0xBF ∷ []) ∷ []))
    ≡ true
unfolding completes after_lead
texts = refl

-- overlong forms of two, three and four bytes; the first and the last surrogate; above U+10FFFF; cut; a tail alone
pub no-texts : all
    (map (λ (l : List ℕ). not (utf8 l))
    ((0xC1 ∷ 0xBF ∷ []) ∷ (0xE0 ∷ 0x9F ∷ 0xBF ∷ []) ∷ (0xF0 ∷ 0x8F ∷ 0xBF ∷ 0xBF ∷ [])
    ∷ (0xED ∷ 0xA0 ∷ 0x80 ∷ []) ∷ (0xED ∷ 0xBF ∷ 0xBF ∷ [])
    ∷ (0xF4 ∷ 0x90 ∷ 0x80 ∷ 0x80 ∷ []) ∷ (0xF5 ∷ 0x80 ∷ 0x80 ∷ 0x80 ∷ [])
    ∷ (0xE2 ∷ 0x82 ∷ []) ∷ (0x80 ∷ []) ∷ []))
    ≡ true
unfolding completes after_lead
no-texts = refl
