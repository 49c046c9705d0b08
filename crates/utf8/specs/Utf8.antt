-- UTF-8 by RFC 3629, section 4: its table of byte ranges, and a text as a row of characters of that table.
use Rattle.std.specs.Prelude.{ℕ, Bool, true, false, cond, ◌&&◌, List, [], ◌∷◌, ◌++◌, leb}
use Rattle.std.proofs.Math.Option.{Option, none, some}

-- the bytes from one to another, both of them too
pub record Range : Type 0 where
  pub low : ℕ
  pub high : ℕ

infixl 70 ◌to◌
abbrev pub ◌to◌ : ℕ → ℕ → Range
a to b = record { low = a; high = b }

abbrev pub UTF8-tail : Range
UTF8-tail = 0x80 to 0xBF

-- the ranges that a character's bytes lie in, for each alternative
abbrev pub UTF8-1 : List (List Range)
UTF8-1 = (0x00 to 0x7F ∷ []) ∷ []

abbrev pub UTF8-2 : List (List Range)
UTF8-2 = (0xC2 to 0xDF ∷ UTF8-tail ∷ []) ∷ []

abbrev pub UTF8-3 : List (List Range)
UTF8-3 =
    (0xE0 to 0xE0 ∷ 0xA0 to 0xBF ∷ UTF8-tail ∷ [])
    ∷ (0xE1 to 0xEC ∷ UTF8-tail ∷ UTF8-tail ∷ [])
    ∷ (0xED to 0xED ∷ 0x80 to 0x9F ∷ UTF8-tail ∷ [])
    ∷ (0xEE to 0xEF ∷ UTF8-tail ∷ UTF8-tail ∷ [])
    ∷ []

abbrev pub UTF8-4 : List (List Range)
UTF8-4 =
    (0xF0 to 0xF0 ∷ 0x90 to 0xBF ∷ UTF8-tail ∷ UTF8-tail ∷ [])
    ∷ (0xF1 to 0xF3 ∷ UTF8-tail ∷ UTF8-tail ∷ UTF8-tail ∷ [])
    ∷ (0xF4 to 0xF4 ∷ 0x80 to 0x8F ∷ UTF8-tail ∷ UTF8-tail ∷ [])
    ∷ []

abbrev pub UTF8-char : List (List Range)
UTF8-char = UTF8-1 ++ UTF8-2 ++ UTF8-3 ++ UTF8-4

abbrev pub holds : Range → ℕ → Bool
holds r b = leb r.low b && leb b r.high

-- the ranges that have to follow the byte b, by the alternative that it begins: no byte begins two of them
unfoldable pub after_lead : List (List Range) → ℕ → Option (List Range)
after_lead [] b = none
after_lead ([] ∷ forms) b = after_lead forms b
after_lead ((r ∷ rs) ∷ forms) b = cond (holds r b) (some rs) (after_lead forms b)

-- the ranges that the next bytes have to lie in, once the byte b is read: none where it was not allowed, and between
-- characters it begins one
abbrev pub next : Option (List Range) → ℕ → Option (List Range)
next none b = none
next (some []) b = after_lead UTF8-char b
next (some (r ∷ rs)) b = cond (holds r b) (some rs) none

-- no byte was wrong and none is missing
abbrev pub complete : Option (List Range) → Bool
complete none = false
complete (some []) = true
complete (some (r ∷ rs)) = false

-- the bytes complete what is begun
unfoldable pub completes : Option (List Range) → List ℕ → Bool
completes due [] = complete due
completes due (b ∷ l) = completes (next due b) l

-- UTF8-octets: a row of characters, and nothing beside them
abbrev pub utf8 : List ℕ → Bool
utf8 l = completes (some []) l
