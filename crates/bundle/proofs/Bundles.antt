-- The theorems of the bundle, over what the reader and the writer answer and leave.
-- Assumes nothing.
use mathlib.Core.Path.{◌≡◌, refl, ap, ◌∙◌}
use Prim.Native.Nat.{ℕ, ◌-◌, ◌≤◌}
use mathlib.Core.Bool.{true}
use mathlib.Core.List.{List}
use mathlib.Core.Option.{none}
use lib.ListN.{length, take, drop, replicate}
use lib.Seq.{take-append_seam, drop-append_seam}
use Rattle.lent.specs.Paper.{value}
use Rattle.lent.specs.Room.{counted}
use Rattle.lent.proofs.Field.{Bytes}
use Rattle.std.specs.Prelude.{None}
use Rattle.bundle.specs.Layout.{Parts, Spans, joined, spans_from, trailer, bundle_of}
use Rattle.bundle.specs.Reading.{spans_at, span_list, touching, trailer_at}
use Rattle.bundle.specs.Reading.{read_fault, read_spec, parts_read}
use Rattle.bundle.specs.Writing.{write_spec, write_out}
use Rattle.bundle.proofs.Lengths.{length_bundle}
use Rattle.bundle.proofs.Whole.{good, was-told, was_read, is-bundle, bundle-read, was-written}

-- A file, which is bytes, that is read with certain parts is their bundle: one set of parts has one bundle, byte for
-- byte.
pub one-bundle : (s : List ℕ) → Bytes s → (p : Parts) → parts_read s ≡ value p → s ≡ bundle_of p
unfolding read_spec
one-bundle s bytes p e =
    let r = was_read (read_fault s) (spans_at s (trailer_at s)) s p e in
    is-bundle s bytes (good s r.0) ∙ ap bundle_of r.1

-- The parts of a file that is read begin at 0, touch each other and end at the trailer, its last 56 bytes.
pub parts-touch : (s : List ℕ) (x : Spans) → read_spec s ≡ value x
    → (56 ≤ length s) × (touching 0 (length s - 56) (span_list x) ≡ true)
unfolding read_spec
parts-touch s x e =
    let r = was-told (read_fault s) (spans_at s (trailer_at s)) x e in
    let g = good s r.0 in
    (g.room, rw (← r.1) g.touch)

-- Where the writer answers that it wrote n bytes, a reader of the first n bytes of its output gets the same six parts.
pub read-written : (p : Parts) (out : List ℕ) (n : ℕ) → write_spec p (length out) ≡ counted n
    → parts_read (take n (write_out p out)) ≡ value p
unfolding write_out
read-written p out n e =
    let w = was-written p (length out) n e in
    rw (e, w.1.1, take-append_seam (bundle_of p) (drop (length (bundle_of p)) out)) (bundle-read p w.0)

-- And what stands in the output past those n bytes is what stood there.
pub rest-stays : (p : Parts) (out : List ℕ) (n : ℕ) → write_spec p (length out) ≡ counted n
    → drop n (write_out p out) ≡ drop n out
unfolding write_out
rest-stays p out n e =
    let w = was-written p (length out) n e in
    rw (e, w.1.1) (drop-append_seam (bundle_of p) (drop (length (bundle_of p)) out))

-- no part is present
abbrev pub no_part : Parts
no_part = record {
  original_sections = none;
  transformed_sections = none;
  to_original = none;
  to_transformed = none;
  old_frames = none;
  new_frames = none;
}

-- With no part present the bundle is the trailer of six absent parts, and has 56 bytes.
pub none-is-the-trailer : (bundle_of no_part ≡ trailer (replicate 6 None)) × (length (bundle_of no_part) ≡ 56)
unfolding bundle_of joined spans_from
none-is-the-trailer = (refl, length_bundle no_part)
