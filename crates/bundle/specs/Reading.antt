-- The reader: where the parts of a file lie, or why it is refused; and the bytes of a part.
use Rattle.std.specs.Prelude.{ℕ, ◌+◌, ◌-◌, Bool, true, false, cond, ◌&&◌, List, [], ◌∷◌, length, take, drop, leb, eqb}
use Rattle.std.specs.Prelude.{Option as Maybe, Some, None}
use Rattle.std.proofs.Math.Option.{Option, none, some}
use Rattle.lent.specs.Le.{le_at}
use Rattle.lent.specs.Paper.{Told, value, first_fault, unless, and_then}
use Rattle.bundle.specs.declared.Span.{Span}
use Rattle.bundle.specs.declared.reader.ReadRefusal.{ReadRefusal}
use Rattle.bundle.specs.declared.reader.ReadRefusal.TheVariants.{TooLarge, NotABundle, OtherVersion, Layout}
use Rattle.bundle.specs.Layout.{Parts, Spans, in_order, span, mark}

-- the span that a start and a length say
unfoldable pub span_of : ℕ → ℕ → Maybe Span
span_of start size = cond (eqb start 4294967295 && eqb size 4294967295) None (span start size)

-- the span whose fields stand at a place
abbrev pub span_at : List ℕ → ℕ → Maybe Span
span_at s at = span_of (le_at 4 s at) (le_at 4 s (at + 4))

-- the spans of a trailer that begins at a place
abbrev pub spans_at : List ℕ → ℕ → Spans
spans_at s at = record {
  original_sections = span_at s at;
  transformed_sections = span_at s (at + 8);
  to_original = span_at s (at + 16);
  to_transformed = span_at s (at + 24);
  old_frames = span_at s (at + 32);
  new_frames = span_at s (at + 40);
}

abbrev pub span_list : Spans → List (Maybe Span)
span_list = in_order

-- present parts touch each other: the first begins at place p, the last ends at place e
unfoldable pub touching : ℕ → ℕ → List (Maybe Span) → Bool
touching p e [] = eqb p e
touching p e (None ∷ l) = touching p e l
touching p e (Some x ∷ l) = eqb x.start p && touching (p + x.length) e l

-- two lists of bytes are the same
unfoldable pub same : List ℕ → List ℕ → Bool
same [] [] = true
same [] (y ∷ l) = false
same (x ∷ k) [] = false
same (x ∷ k) (y ∷ l) = eqb x y && same k l

-- the trailer is the last 56 bytes
abbrev pub trailer_at : List ℕ → ℕ
trailer_at s = length s - 56

-- 4: the whole length exceeds 32 bits
abbrev pub length_fault : ℕ → Option ℕ
length_fault n = cond (leb n 4294967295) none (some 4)

-- 8: the file has fewer than 56 bytes, or its last four are not the mark
abbrev pub mark_fault : List ℕ → Option ℕ
mark_fault s = cond (leb 56 (length s) && same (drop (length s - 4) s) mark) none (some 8)

-- 9: another version than 1
abbrev pub version_fault : List ℕ → Option ℕ
version_fault s = cond (eqb (le_at 4 s (trailer_at s + 48)) 1) none (some 9)

-- 10: the parts do not begin at 0, touch each other and end at the trailer
abbrev pub layout_fault : List ℕ → Option ℕ
layout_fault s = cond (touching 0 (trailer_at s) (span_list (spans_at s (trailer_at s)))) none (some 10)

-- 4, 8, 9, 10: the first of them
abbrev pub read_fault : List ℕ → Option ℕ
read_fault s = first_fault (length_fault (length s)) (first_fault (mark_fault s) (first_fault (version_fault s) (layout_fault s)))

-- a refusal, or where the six parts lie
unfoldable pub read_spec : List ℕ → Told Spans
read_spec s = unless (read_fault s) (value (spans_at s (trailer_at s)))

-- the number of each refusal
abbrev pub read_number : ReadRefusal → ℕ
read_number TooLarge = 4
read_number NotABundle = 8
read_number OtherVersion = 9
read_number Layout = 10

-- the bytes of a span; none where it is absent or reaches past the file
unfoldable pub bytes_of : List ℕ → Maybe Span → List ℕ
bytes_of s None = []
bytes_of s (Some x) = cond (leb (x.start + x.length) (length s)) (take x.length (drop x.start s)) []

-- the part that a span says
unfoldable pub part_in : List ℕ → Maybe Span → Option (List ℕ)
part_in s None = none
part_in s (Some x) = some (bytes_of s (Some x))

abbrev pub parts_in : List ℕ → Spans → Parts
parts_in s x = record {
  original_sections = part_in s x.original_sections;
  transformed_sections = part_in s x.transformed_sections;
  to_original = part_in s x.to_original;
  to_transformed = part_in s x.to_transformed;
  old_frames = part_in s x.old_frames;
  new_frames = part_in s x.new_frames;
}

-- the parts that a file is read with, or why it is refused
abbrev pub parts_read : List ℕ → Told Parts
parts_read s = and_then (read_spec s) (λ (x : Spans). value (parts_in s x))
