-- Texts. A text is a list of bytes, in ASCII; each of its lines ends in a line feed.
use Rattle.std.specs.Prelude.{ℕ, zero, suc, ◌+◌, ◌-◌, ◌/◌, ◌%◌, ◌≤◌, ◌≡◌, cond, List, [], ◌∷◌, ◌++◌, length, ltb, leb}
use Prim.Native.Char.{code}
use Rattle.std.proofs.Math.Option.{Option, none, some}
use Rattle.lent.specs.Room.{written_over}
use Rattle.lent.specs.Words.{ascii}

-- a text, and the end of its line
abbrev pub line : List ℕ → List ℕ
line text = text ++ ascii "\n"

-- a digit below 16: `0` to `9`, then `A` to `F`
unfoldable pub glyph : ℕ → ℕ
glyph d = cond (ltb d 10) (code "0" + d) (code "A" + (d - 10))

-- the last w digits of n in base b, the most significant first
unfoldable pub digits : ℕ → ℕ → ℕ → List ℕ
digits b zero n = []
digits b (suc w) n = digits b w (n / b) ++ (glyph (n % b) ∷ [])

-- w hex digits of n
abbrev pub hex : ℕ → ℕ → List ℕ
hex w n = digits 16 w n

-- how many decimal digits n has, where its digits are at most as many as the first number, and one
unfoldable pub places_in : ℕ → ℕ → ℕ
places_in zero n = 1
places_in (suc f) n = cond (ltb n 10) 1 (suc (places_in f (n / 10)))

-- how many decimal digits n has, without leading zeros: 0 has one
abbrev pub places : ℕ → ℕ
places n = places_in n n

-- n in decimal, without leading zeros
abbrev pub decimal : ℕ → List ℕ
decimal n = digits 10 (places n) n

-- a line: a word, and a number in decimal
abbrev pub numbered : List ℕ → ℕ → List ℕ
numbered word n = word ++ line (decimal n)

-- the line of each element, one after the other
unfoldable pub lines : {A : Type 0} → (A → List ℕ) → List A → List ℕ
lines f [] = []
lines f (x ∷ l) = f x ++ lines f l

-- a refused run prints this line only
abbrev pub refused_text : ℕ → List ℕ
refused_text n = numbered (ascii "refused ") n

-- a program's input has at least so many bytes, else 1, and at most 65,536, else 2
abbrev pub input_fault : ℕ → List ℕ → Option ℕ
input_fault least input = cond (ltb (length input) least) (some 1) (cond (leb (length input) 65536) none (some 2))

-- the text for a program's input: under `least` bytes in all refused 1, over 65,536, whatever stands in it, refused 2
abbrev pub input_text : ℕ → List ℕ → List ℕ → List ℕ
input_text least input text =
    cond (ltb (length input) least) (refused_text 1) (cond (leb (length input) 65536) text (refused_text 2))

-- A whole text at the front of lent bytes, and its length as the answer. With less room than the largest text of its
-- kind needs, the answer is 0 and the bytes are as they were.
pub record Printed (room : ℕ) (text before : List ℕ) (r : ℕ) (after : List ℕ) : Type 0 where
  pub answer : r ≡ cond (leb room (length before)) (length text) 0
  pub bytes : after ≡ cond (leb room (length before)) (written_over text before) before
  pub within : r ≤ length after
