-- A bundle: the tables of a build one after the other, then a trailer that points back at them.
use Rattle.std.specs.Prelude.{ℕ, ◌+◌, List, [], ◌∷◌, ◌++◌, length}
use Rattle.std.specs.Prelude.{Option as Maybe, Some, None}
use Rattle.std.proofs.Math.Option.{Option, none, some}
use Rattle.lent.specs.Le.{le_bytes}
use Rattle.lent.specs.Words.{ascii}
use Rattle.bundle.specs.declared.Parts.{Parts as Six}
use Rattle.bundle.specs.declared.Span.{Span}

-- a set of parts: each is there with its bytes, or absent
abbrev pub Parts : Type 0
Parts = Six (Option (List ℕ))

-- where the parts of a file lie
abbrev pub Spans : Type 0
Spans = Six (Maybe Span)

-- the six, in the bundle's order
abbrev pub in_order : {A : Type 0} → Six A → List A
in_order p =
    p.original_sections
    ∷ (p.transformed_sections ∷ (p.to_original ∷ (p.to_transformed ∷ (p.old_frames ∷ (p.new_frames ∷ [])))))

-- the bytes of a part; an absent one has none
abbrev pub bytes_in : Option (List ℕ) → List ℕ
bytes_in none = []
bytes_in (some part) = part

-- a start and a length
abbrev pub span : ℕ → ℕ → Maybe Span
span start size = Some (record { start = start; length = size })

-- where a part lies that begins at place p
abbrev pub span_from : ℕ → Option (List ℕ) → Maybe Span
span_from p none = None
span_from p (some part) = span p (length part)

-- the present parts, one after the other
unfoldable pub joined : List (Option (List ℕ)) → List ℕ
joined [] = []
joined (x ∷ l) = bytes_in x ++ joined l

-- where each part lies, the first from place p on, and each other one where the one before it ends
unfoldable pub spans_from : ℕ → List (Option (List ℕ)) → List (Maybe Span)
spans_from p [] = []
spans_from p (x ∷ l) = span_from p x ∷ spans_from (p + length (bytes_in x)) l

-- start and length, as u32; for an absent part both FFFFFFFF
unfoldable pub fields : Maybe Span → List ℕ
fields None = le_bytes 4 4294967295 ++ le_bytes 4 4294967295
fields (Some x) = le_bytes 4 x.start ++ le_bytes 4 x.length

unfoldable pub all_fields : List (Maybe Span) → List ℕ
all_fields [] = []
all_fields (x ∷ l) = fields x ++ all_fields l

abbrev pub mark : List ℕ
mark = ascii "BACK"

-- the fields of each part, version 1 as u32, the mark
abbrev pub trailer : List (Maybe Span) → List ℕ
trailer l = all_fields l ++ (le_bytes 4 1 ++ mark)

-- the bundle of a set of parts
unfoldable pub bundle_of : Parts → List ℕ
bundle_of p = joined (in_order p) ++ trailer (spans_from 0 (in_order p))
