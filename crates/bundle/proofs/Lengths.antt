-- How long a bundle is, and its parts behind their marks.
-- Assumes nothing.
use mathlib.Core.Path.{◌≡◌, refl, ap, ◌∙◌}
use Prim.Native.Nat.{ℕ, suc, ◌+◌, ◌*◌}
use native.Mathlib.Omega.{arith}
use mathlib.Core.List.{List, [], ◌∷◌, ◌++◌}
use mathlib.Core.Option.{Option}
use lib.ListN.{length, length-append}
use Rattle.lent.specs.Le.{le_bytes}
use Rattle.lent.proofs.Encoded.{length-le}
use Rattle.std.specs.Prelude.{Option as Maybe, Some, None}
use Rattle.bundle.specs.declared.Span.{Span}
use Rattle.bundle.specs.Layout.{Parts, in_order, bytes_in, joined, spans_from}
use Rattle.bundle.specs.Layout.{fields, all_fields, mark, trailer, bundle_of}

two_fields : (m n : ℕ) → length (le_bytes 4 m ++ le_bytes 4 n) ≡ 8
two_fields m n = length-append (le_bytes 4 m) (le_bytes 4 n) ∙ omega (arith, length-le 4 m, length-le 4 n)

pub length_fields : (x : Maybe Span) → length (fields x) ≡ 8
unfolding fields
length_fields None = two_fields 4294967295 4294967295
length_fields (Some x) = two_fields x.start x.length

pub length-all-fields : (l : List (Maybe Span)) → length (all_fields l) ≡ 8 * length l
unfolding all_fields
length-all-fields [] = refl
length-all-fields (x ∷ l) =
    length-append (fields x) (all_fields l) ∙ omega (arith, length_fields x, length-all-fields l)

pub length-spans : (p : ℕ) (l : List (Option (List ℕ))) → length (spans_from p l) ≡ length l
unfolding spans_from
length-spans p [] = refl
length-spans p (x ∷ l) = ap suc (length-spans (p + length (bytes_in x)) l)

pub length-end : length (le_bytes 4 1 ++ mark) ≡ 8
length-end = length-append (le_bytes 4 1) mark ∙ omega (arith, length-le 4 1)

pub length-trailer : (l : List (Maybe Span)) → length (trailer l) ≡ 8 * length l + 8
length-trailer l =
    length-append (all_fields l) (le_bytes 4 1 ++ mark) ∙ omega (arith, length-all-fields l, length-end)

-- the parts, and 56 bytes
pub length_bundle : (p : Parts) → length (bundle_of p) ≡ length (joined (in_order p)) + 56
unfolding bundle_of
length_bundle p =
    let t = length-trailer (spans_from 0 (in_order p)) in
    length-append (joined (in_order p)) (trailer (spans_from 0 (in_order p)))
    ∙ omega (arith, length-spans 0 (in_order p))

-- the length of six parts is the sum of theirs
pub joined-lengths : (p : Parts) → length (joined (in_order p)) ≡ length (bytes_in p.original_sections)
    + (length (bytes_in p.transformed_sections)
    + (length (bytes_in p.to_original)
    + (length (bytes_in p.to_transformed) + (length (bytes_in p.old_frames) + length (bytes_in p.new_frames)))))
unfolding joined
joined-lengths p =
    let six = length-append (bytes_in p.new_frames) [] in
    let five : List (Option (List ℕ)) = p.new_frames ∷ [] in
    let four : List (Option (List ℕ)) = p.old_frames ∷ five in
    let three : List (Option (List ℕ)) = p.to_transformed ∷ four in
    let two : List (Option (List ℕ)) = p.to_original ∷ three in
    let one : List (Option (List ℕ)) = p.transformed_sections ∷ two in
    omega (
      arith,
      six,
      length-append (bytes_in p.old_frames) (joined five),
      length-append (bytes_in p.to_transformed) (joined four),
      length-append (bytes_in p.to_original) (joined three),
      length-append (bytes_in p.transformed_sections) (joined two),
      length-append (bytes_in p.original_sections) (joined one),
    )

pub six-fields : (p : Parts) → length (all_fields (spans_from 0 (in_order p))) ≡ 48
six-fields p = omega (arith, length-all-fields (spans_from 0 (in_order p)), length-spans 0 (in_order p))
