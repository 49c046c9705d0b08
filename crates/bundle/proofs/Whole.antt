-- A file that is not refused is the bundle of its parts, and the bundle of some parts is read as these.
-- Assumes nothing.
use mathlib.Core.Path.{◌≡◌, refl, sym, ap, ◌∙◌}
use Prim.Native.Nat.{ℕ, ◌+◌, ◌-◌, ◌≤◌}
use native.Mathlib.Nat.{add-zero, zero-add, sub-zero}
use native.Mathlib.Omega.{arith}
use mathlib.Core.Bool.{Bool, true, false, cond, ◌&&◌}
use mathlib.Core.List.{List, [], ◌∷◌, ◌++◌, map}
use mathlib.Core.Option.{Option, none, some}
use lib.ListN.{length, take, drop, take-append-drop}
use lib.Seq.{drop-append-add, drop-drop}
use lib.Dec.{leb, eqb}
use borrow.Author.Tests.{leb-true, eqb-true}
use Rattle.lent.specs.Le.{le_at, le_bytes}
use Rattle.lent.specs.Paper.{Told, value, first_fault, unless, and_then}
use Rattle.lent.specs.Room.{Written, counted, refused_as, refused_for, room_for, unless_fault}
use Rattle.lent.proofs.Encoded.{le-after, le_read, le-written}
use Rattle.lent.proofs.Field.{Bytes}
use Rattle.lent.proofs.Logic.{and_left, and_right}
use Rattle.std.specs.Prelude.{Option as Maybe}
use Rattle.bundle.specs.declared.Span.{Span}
use Rattle.bundle.specs.Layout.{Parts, Spans, in_order, joined, spans_from, all_fields, mark, trailer, bundle_of}
use Rattle.bundle.specs.Reading.{spans_at, span_list, touching, same, trailer_at, length_fault, mark_fault}
use Rattle.bundle.specs.Reading.{version_fault, layout_fault, read_fault, part_in, parts_in, parts_read}
use Rattle.bundle.specs.Writing.{write_spec}
use Rattle.bundle.proofs.Laying.{laid-touch, laid-read, touch-laid}
use Rattle.bundle.proofs.Lengths.{length-all-fields, length-spans, length_bundle}
use Rattle.bundle.proofs.Readings.{read-parts}
use Rattle.bundle.proofs.Touching.{all-parts}
use Rattle.bundle.proofs.Trailing.{spans-read, fields-are}

-- what a file that is read has passed
pub record Good (s : List ℕ) : Type 0 where
  pub fits : length s ≤ 4294967295
  pub room : 56 ≤ length s
  pub marked : drop (length s - 4) s ≡ mark
  pub version : le_at 4 s (trailer_at s + 48) ≡ 1
  pub touch : touching 0 (trailer_at s) (span_list (spans_at s (trailer_at s))) ≡ true

passed : (t : Bool) (n : ℕ) → cond t none (some n) ≡ none → t ≡ true
passed true n e = refl
passed false n e = cc

both-none : (f g : Option ℕ) → first_fault f g ≡ none → (f ≡ none) × (g ≡ none)
both-none none g e = (refl, e)
both-none (some n) g e = ((cc), (cc))

same-is : (k l : List ℕ) → same k l ≡ true → k ≡ l
unfolding same
same-is [] [] e = refl
same-is [] (y ∷ l) e = cc
same-is (x ∷ k) [] e = cc
same-is (x ∷ k) (y ∷ l) e =
    rw (eqb-true x y (and_left (eqb x y) (same k l) e), same-is k l (and_right (eqb x y) (same k l) e))

pub good : (s : List ℕ) → read_fault s ≡ none → Good s
good s e =
    let a = both-none (length_fault (length s)) (first_fault (mark_fault s) (first_fault (version_fault s) (layout_fault s))) e in
    let b = both-none (mark_fault s) (first_fault (version_fault s) (layout_fault s)) a.1 in
    let c = both-none (version_fault s) (layout_fault s) b.1 in
    let m : (leb 56 (length s) && same (drop (length s - 4) s) mark) ≡ true = passed _ 8 b.0 in
    record {
      fits = leb-true (length s) 4294967295 (passed _ 4 a.0);
      room = leb-true 56 (length s) (and_left (leb 56 (length s)) (same (drop (length s - 4) s) mark) m);
      marked = same-is (drop (length s - 4) s) mark
          (and_right (leb 56 (length s)) (same (drop (length s - 4) s) mark) m);
      version = eqb-true (le_at 4 s (trailer_at s + 48)) 1 (passed _ 9 c.0);
      touch = passed _ 10 c.1;
    }

-- what the reader gave
pub was-told : (f : Option ℕ) (y x : Spans) → unless f (value y) ≡ value x → (f ≡ none) × (y ≡ x)
was-told none y x e = (refl, cc)
was-told (some n) y x e = ((cc), (cc))

pub was_read : (f : Option ℕ) (y : Spans) (s : List ℕ) (p : Parts)
    → and_then (unless f (value y)) (λ (x : Spans). value (parts_in s x)) ≡ value p → (f ≡ none) × (parts_in s y ≡ p)
was_read none y s p e = (refl, cc)
was_read (some n) y s p e = ((cc), (cc))

-- a good file is the bundle of its parts
module _ (s : List ℕ) (bytes : Bytes s) (g : Good s) where
  abbrev at : ℕ
  at = trailer_at s

  abbrev spans : List (Maybe Span)
  spans = span_list (spans_at s at)

  the_end : drop (at + 48) s ≡ le_bytes 4 1 ++ mark
  the_end =
      let four : at + 48 + 4 ≡ length s - 4 = omega (arith, g.room) in
      let version : le_bytes 4 1 ≡ take 4 (drop (at + 48) s) =
      ap (le_bytes 4) (sym g.version) ∙ le-written 4 s (at + 48) bytes (omega (arith, g.room)) in
      let last : drop 4 (drop (at + 48) s) ≡ mark = drop-drop 4 (at + 48) s ∙ rw four g.marked in
      rw (version, ← last) (sym (take-append-drop 4 (drop (at + 48) s)))

  the-trailer : trailer spans ≡ drop at s
  the-trailer =
      rw (all-parts s at, ← the_end)
      (fields-are s bytes at 0 6 (omega (arith, g.room)) ∙ ap (λ (k : ℕ). drop k s) (add-zero at))

  pub is-bundle : s ≡ bundle_of (parts_in s (spans_at s at))
  unfolding bundle_of
  is-bundle =
      let laid = touch-laid s at (omega (arith, g.room)) spans 0 g.touch in
      rw (laid.1.0, laid.1.1, the-trailer, sub-zero at) (sym (take-append-drop at s))

-- six parts are those of a list of six
six-same : (s : List ℕ) (x : Spans) (p : Parts) → map (part_in s) (span_list x) ≡ in_order p → parts_in s x ≡ p
six-same s x p e =
    let a : part_in s x.original_sections ≡ p.original_sections = cc in
    let b : part_in s x.transformed_sections ≡ p.transformed_sections = cc in
    let c : part_in s x.to_original ≡ p.to_original = cc in
    let d : part_in s x.to_transformed ≡ p.to_transformed = cc in
    let f : part_in s x.old_frames ≡ p.old_frames = cc in
    let g : part_in s x.new_frames ≡ p.new_frames = cc in
    rw (a, b, c, d, f, g)

-- the bundle of some parts, as it is read
module _ (p : Parts) (fits : length (bundle_of p) ≤ 4294967295) where
  abbrev before : List ℕ
  before = joined (in_order p)

  abbrev laid : List (Maybe Span)
  laid = spans_from 0 (in_order p)

  abbrev version : List ℕ
  version = le_bytes 4 1 ++ mark

  place : trailer_at (bundle_of p) ≡ length before
  place = omega (arith, length_bundle p)

  long : length (all_fields laid) ≡ 48
  long = omega (arith, length-all-fields laid, length-spans 0 (in_order p))

  its-mark : true ≡ same (drop (length (bundle_of p) - 4) (bundle_of p)) mark
  unfolding bundle_of same le_bytes
  its-mark =
      let at : length (bundle_of p) - 4 ≡ length before + (length (all_fields laid) + 4) =
      omega (arith, length_bundle p, long) in
      rw (
        at,
        drop-append-add before (trailer laid) (length (all_fields laid) + 4),
        drop-append-add (all_fields laid) version 4,
      )

  its-version : le_at 4 (bundle_of p) (trailer_at (bundle_of p) + 48) ≡ 1
  unfolding bundle_of
  its-version =
      let at : trailer_at (bundle_of p) + 48 ≡ length before + (length (all_fields laid) + 0) =
      omega (arith, length_bundle p, long) in
      ap (le_at 4 (bundle_of p)) at
      ∙ le-after 4 before (trailer laid) (length (all_fields laid) + 0)
      ∙ le-after 4 (all_fields laid) version 0
      ∙ le_read 4 1 mark (omega arith)

  its-spans : span_list (spans_at (bundle_of p) (trailer_at (bundle_of p))) ≡ laid
  unfolding bundle_of
  its-spans =
      all-parts (bundle_of p) (trailer_at (bundle_of p))
      ∙ rw place (spans-read before 0 (in_order p) version (omega (arith, length_bundle p)))

  its-touch : true ≡ touching 0 (trailer_at (bundle_of p)) (span_list (spans_at (bundle_of p) (trailer_at (bundle_of p))))
  its-touch = rw (its-spans, place) (sym (laid-touch 0 (in_order p)) ∙ rw (zero-add (length before)))

  its-parts : parts_in (bundle_of p) (spans_at (bundle_of p) (trailer_at (bundle_of p))) ≡ p
  unfolding bundle_of
  its-parts =
      six-same (bundle_of p) (spans_at (bundle_of p) (trailer_at (bundle_of p))) p
      (ap (map (part_in (bundle_of p))) its-spans ∙ laid-read [] (in_order p) (trailer laid))

  pub bundle-read : parts_read (bundle_of p) ≡ value p
  bundle-read =
      let read =
      read-parts (bundle_of p) fits (omega (arith, length_bundle p)) its-mark its-version its-touch in
      ap (λ (t : Told Spans). and_then t (λ (x : Spans). value (parts_in (bundle_of p) x))) (sym read) ∙ ap value its-parts

-- what the writer has passed where it wrote n bytes
pub was-written : (p : Parts) (room n : ℕ) → write_spec p room ≡ counted n
    → (length (bundle_of p) ≤ 4294967295) × ((length (bundle_of p) ≤ room) × (n ≡ length (bundle_of p)))
unfolding write_spec room_for
was-written p room n e = go (leb (length (bundle_of p)) 4294967295) (leb (length (bundle_of p)) room) refl refl e
  where
    go : (t u : Bool) → leb (length (bundle_of p)) 4294967295 ≡ t → leb (length (bundle_of p)) room ≡ u
        → unless_fault (cond t none (some 4))
        (cond u (counted (length (bundle_of p))) (refused_for 5 (length (bundle_of p)))) ≡ counted n
        → (length (bundle_of p) ≤ 4294967295) × ((length (bundle_of p) ≤ room) × (n ≡ length (bundle_of p)))
    go true true a b e =
        let m : ◌≡◌ {A = Written} (counted (length (bundle_of p))) (counted n) = e in
        (leb-true (length (bundle_of p)) 4294967295 a, (leb-true (length (bundle_of p)) room b, cc))
    go true false a b e =
        let m : ◌≡◌ {A = Written} (refused_for 5 (length (bundle_of p))) (counted n) = e in
        let z : ◌≡◌ {A = ℕ} 0 1 = cc in
        (omega arith, (omega arith, omega arith))
    go false u a b e =
        let m : ◌≡◌ {A = Written} (refused_as 4) (counted n) = e in
        let z : ◌≡◌ {A = ℕ} 0 1 = cc in
        (omega arith, (omega arith, omega arith))
