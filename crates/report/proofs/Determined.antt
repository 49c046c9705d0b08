-- A printed text leaves one answer and one content of the lent bytes.
-- Assumes nothing.
use mathlib.Core.Path.{◌≡◌, sym, ◌∙◌}
use Prim.Native.Nat.{ℕ}
use mathlib.Core.List.{List}
use Rattle.report.specs.Text.{Printed}

pub one-printed : {room : ℕ} {text before : List ℕ} {r q : ℕ} {after last : List ℕ}
    → Printed room text before r after → Printed room text before q last → (r ≡ q) × (after ≡ last)
one-printed p o = (p.answer ∙ sym o.answer, p.bytes ∙ sym o.bytes)
