-- Words on optional values, lists, texts and bits that more than one crate uses.
use Rattle.std.specs.Prelude.{ℕ, ◌/◌, ◌%◌, Bool, List, [], ◌∷◌, eqb, Option as Maybe, Some, None}
use Prim.Native.Char.{code}
use Prim.Native.String.{String, [] as empty, ◌∷◌ as ◌∷ˢ◌}
use Rattle.std.proofs.Math.Option.{Option, none, some}

-- an optional value of the code, as these definitions have it
abbrev pub optional : {A : Type 0} → Maybe A → Option A
optional (Some x) = some x
optional None = none

-- the first value, or else the second
unfoldable pub or_else : {A : Type 0} → Option A → Option A → Option A
or_else none y = y
or_else (some x) y = some x

-- an optional value before others
unfoldable pub put : {A : Type 0} → Option A → List A → List A
put none l = l
put (some p) l = p ∷ l

-- the bytes of a quoted text
abbrev pub ascii : String → List ℕ
ascii empty = []
ascii (c ∷ˢ s) = code c ∷ ascii s

-- the bit that the number b has alone is set in x
abbrev pub is_set : ℕ → ℕ → Bool
is_set b x = eqb (x / b % 2) 1
