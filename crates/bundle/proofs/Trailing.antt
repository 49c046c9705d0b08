-- The trailer's fields: what was written is read, and what is read is what was written.
-- Assumes nothing.
use mathlib.Core.Path.{◌≡◌, refl, sym, ap, ◌∙◌}
use Prim.Native.Nat.{ℕ, zero, suc, ◌+◌, ◌*◌, ◌≤◌, ◌<◌}
use native.Mathlib.Nat.{add-zero}
use native.Mathlib.Omega.{arith}
use mathlib.Core.Bool.{Bool, true, false, cond, ◌&&◌}
use mathlib.Core.List.{List, [], ◌∷◌, ◌++◌, append_assoc}
use mathlib.Core.Option.{Option, none, some}
use lib.ListN.{length, take, drop, length-append, take-append-drop}
use lib.Seq.{take-add, drop-drop}
use lib.Dec.{eqb}
use borrow.Author.Tests.{ne_eqb, eqb-true}
use Rattle.lent.specs.Le.{le_at, le_bytes}
use Rattle.lent.specs.Table.{listed}
use Rattle.lent.proofs.Encoded.{length-le, le-after, le_read, le-written}
use Rattle.lent.proofs.Field.{Bytes}
use Rattle.lent.proofs.Logic.{and_left, and_right}
use Rattle.std.specs.Prelude.{Option as Maybe, None}
use Rattle.bundle.specs.declared.Span.{Span}
use Rattle.bundle.specs.Layout.{joined, spans_from, fields, all_fields, span}
use Rattle.bundle.specs.Reading.{span_of, span_at}
use Rattle.bundle.proofs.Lengths.{length_fields}

-- two fields behind other bytes
module _ (before : List ℕ) (m n : ℕ) (after : List ℕ) (h : m < 4294967296) (g : n < 4294967296) where
  abbrev whole : List ℕ
  whole = before ++ (le_bytes 4 m ++ le_bytes 4 n ++ after)

  abbrev pair : List ℕ
  pair = le_bytes 4 m ++ le_bytes 4 n ++ after

  apart : pair ≡ le_bytes 4 m ++ (le_bytes 4 n ++ after)
  apart = append_assoc (le_bytes 4 m) (le_bytes 4 n) after

  first_read : le_at 4 whole (length before) ≡ m
  first_read =
      ap (le_at 4 whole) (sym (add-zero (length before)))
      ∙ le-after 4 before pair 0
      ∙ ap (λ (l : List ℕ). le_at 4 l 0) apart
      ∙ le_read 4 m (le_bytes 4 n ++ after) h

  second-read : le_at 4 whole (length before + 4) ≡ n
  second-read =
      let four : 4 ≡ length (le_bytes 4 m) + 0 = omega (arith, length-le 4 m) in
      le-after 4 before pair 4
      ∙ ap (λ (l : List ℕ). le_at 4 l 4) apart
      ∙ ap (le_at 4 (le_bytes 4 m ++ (le_bytes 4 n ++ after))) four
      ∙ le-after 4 (le_bytes 4 m) (le_bytes 4 n ++ after) 0
      ∙ le_read 4 n after g

  pub pair_read : span_at whole (length before) ≡ span_of m n
  pair_read = rw (first_read, second-read)

pub absent-read : (before after : List ℕ) → span_at (before ++ (fields None ++ after)) (length before) ≡ None
unfolding fields span_of
absent-read before after = pair_read before 4294967295 4294967295 after (omega arith) (omega arith)

pub at_read : (before after : List ℕ) (start size : ℕ) → start < 4294967295 → size < 4294967296
    → span_at (before ++ (fields (span start size) ++ after)) (length before) ≡ span start size
unfolding fields span_of
at_read before after start size h g =
    pair_read before start size after (omega arith) g ∙ rw (ne_eqb start 4294967295 (λ e. omega arith))

-- what stands at the places after the first
listed_next : {A : Type 0} (f g : ℕ → A) → ((k : ℕ) → f (suc k) ≡ g k) → (i n : ℕ) → listed f (suc i) n ≡ listed g i n
unfolding listed
listed_next f g e i zero = refl
listed_next f g e i (suc n) = rw (e i, listed_next f g e (suc i) n)

-- the spans of a trailer that begins behind other bytes
abbrev pub spans_behind : List ℕ → List ℕ → ℕ → List (Maybe Span)
spans_behind before l n = listed (λ (k : ℕ). span_at (before ++ l) (length before + 8 * k)) 0 n

-- the spans after the first lie as they would behind the first one's fields
span_moved : (before : List ℕ) (x : Maybe Span) (l after : List ℕ) (k : ℕ)
    → span_at (before ++ (fields x ++ l ++ after)) (length before + 8 * suc k)
    ≡ span_at (before ++ fields x ++ (l ++ after)) (length (before ++ fields x) + 8 * k)
span_moved before x l after k =
    let moved : before ++ (fields x ++ (l ++ after)) ≡ before ++ fields x ++ (l ++ after) =
    sym (append_assoc before (fields x) (l ++ after)) in
    let place : length before + 8 * suc k ≡ length (before ++ fields x) + 8 * k =
    omega (arith, length-append before (fields x), length_fields x) in
    rw (append_assoc (fields x) l after, moved, place)

one_span : (before : List ℕ) (x : Maybe Span) (l after : List ℕ) (n : ℕ)
    → span_at (before ++ (fields x ++ (l ++ after))) (length before) ≡ x
    → spans_behind before (fields x ++ l ++ after) (suc n) ≡ x ∷ spans_behind (before ++ fields x) (l ++ after) n
unfolding listed
one_span before x l after n e =
    let here : span_at (before ++ (fields x ++ l ++ after)) (length before) ≡ x =
    rw (append_assoc (fields x) l after) e in
    rw (add-zero (length before), here)
    (ap (λ (k : List (Maybe Span)). x ∷ k)
    (listed_next (λ (k : ℕ). span_at (before ++ (fields x ++ l ++ after)) (length before + 8 * k))
    (λ (k : ℕ). span_at (before ++ fields x ++ (l ++ after)) (length (before ++ fields x) + 8 * k))
    (span_moved before x l after) 0 n))

-- spans of parts that 32 bits count are read as they were written
pub spans-read : (before : List ℕ) (p : ℕ) (l : List (Option (List ℕ))) (after : List ℕ)
    → p + length (joined l) < 4294967295
    → spans_behind before (all_fields (spans_from p l) ++ after) (length l) ≡ spans_from p l
unfolding joined spans_from all_fields listed
spans-read before p [] after h = refl
spans-read before p (none ∷ l) after h =
    one_span before None (all_fields (spans_from (p + 0) l)) after (length l)
    (absent-read before (all_fields (spans_from (p + 0) l) ++ after))
    ∙ ap (λ (k : List (Maybe Span)). None ∷ k) (spans-read (before ++ fields None) (p + 0) l after (omega (arith, h)))
spans-read before p (some part ∷ l) after h =
    let x : Maybe Span = span p (length part) in
    let rest : List (Maybe Span) = spans_from (p + length part) l in
    let n = length-append part (joined l) in
    one_span before x (all_fields rest) after (length l)
    (at_read before (all_fields rest ++ after) p (length part) (omega arith) (omega (arith, n)))
    ∙ ap (λ (k : List (Maybe Span)). x ∷ k) (spans-read (before ++ fields x) (p + length part) l after (omega (arith, n)))

-- the fields of a span, whether it is absent or not
fields-of : (m n : ℕ) → fields (span_of m n) ≡ le_bytes 4 m ++ le_bytes 4 n
unfolding span_of fields
fields-of m n = go (eqb m 4294967295 && eqb n 4294967295) refl
  where
    go : (t : Bool) → (eqb m 4294967295 && eqb n 4294967295) ≡ t
        → fields (cond t None (span m n)) ≡ le_bytes 4 m ++ le_bytes 4 n
    go true e =
        let a : m ≡ 4294967295 = eqb-true m 4294967295 (and_left (eqb m 4294967295) (eqb n 4294967295) e) in
        let b : n ≡ 4294967295 = eqb-true n 4294967295 (and_right (eqb m 4294967295) (eqb n 4294967295) e) in
        rw (a, b)
    go false e = refl

module _ (s : List ℕ) (bytes : Bytes s) where
  fields-written : (at : ℕ) → at + 8 ≤ length s → fields (span_at s at) ≡ take 8 (drop at s)
  fields-written at h =
      fields-of (le_at 4 s at) (le_at 4 s (at + 4))
      ∙ rw (le-written 4 s at bytes (omega arith), le-written 4 s (at + 4) bytes (omega arith), ← (drop-drop 4 at s))
      (sym (take-add 4 4 (drop at s)))

  -- fields that are read, and what stands after them, are what stands there
  pub fields-are : (at i n : ℕ) → at + 8 * (i + n) ≤ length s
      → all_fields (listed (λ (k : ℕ). span_at s (at + 8 * k)) i n) ++ drop (at + 8 * (i + n)) s ≡ drop (at + 8 * i) s
  unfolding all_fields listed
  fields-are at i zero h = rw (add-zero i)
  fields-are at i (suc n) h =
      let place : at + 8 * (i + suc n) ≡ at + 8 * (suc i + n) = omega arith in
      let next : at + 8 * i + 8 ≡ at + 8 * suc i = omega arith in
      let rest = fields-are at (suc i) n (omega arith) in
      append_assoc (fields (span_at s (at + 8 * i))) (all_fields (listed (λ (k : ℕ). span_at s (at + 8 * k)) (suc i) n))
      (drop (at + 8 * (i + suc n)) s)
      ∙ rw (place, rest, fields-written (at + 8 * i) (omega arith), ← next, ← (drop-drop 8 (at + 8 * i) s))
      (take-append-drop 8 (drop (at + 8 * i) s))
