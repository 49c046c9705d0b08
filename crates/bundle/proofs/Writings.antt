-- What the writer answers and leaves behind where it wrote the parts and the trailer.
-- Assumes nothing.
use mathlib.Core.Path.{◌≡◌, refl, ◌∙◌}
use Prim.Native.Nat.{ℕ, ◌≤◌}
use native.Mathlib.Nat.{zero-add}
use mathlib.Core.List.{List}
use lib.ListN.{length}
use borrow.Author.Tests.{le-leb}
use Rattle.lent.specs.Room.{counted, room_for, Wrote}
use Rattle.lent.proofs.Wrote.{front, wrote-both}
use Rattle.bundle.specs.Layout.{Parts, in_order, joined, spans_from, trailer, bundle_of}
use Rattle.bundle.specs.Writing.{write_spec, write_out}

module _ (p : Parts) (out : List ℕ) {middle after : List ℕ} {at r : ℕ} (parts : Wrote (joined (in_order p)) out 0 at middle)
    (trailed : Wrote (trailer (spans_from 0 (in_order p))) middle at r after) where
  bundled : Wrote (bundle_of p) out 0 r after
  unfolding bundle_of
  bundled = wrote-both parts trailed

  pub write-all : length (bundle_of p) ≤ 4294967295 → length (bundle_of p) ≤ length out
      → (counted r ≡ write_spec p (length out)) × (after ≡ write_out p out)
  unfolding write_spec write_out room_for
  write-all fits room =
      let long : r ≡ length (bundle_of p) = bundled.place ∙ zero-add (length (bundle_of p)) in
      rw (le-leb (length (bundle_of p)) 4294967295 fits, le-leb (length (bundle_of p)) (length out) room, long)
      (refl, bundled.bytes ∙ front (bundle_of p) out room)
