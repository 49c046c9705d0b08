-- A header is answered only for a place that the table has.
-- Assumes nothing.
use mathlib.Core.Path.{◌≡◌, refl}
use Prim.Native.Nat.{ℕ, ◌/◌, ◌<◌}
use mathlib.Core.List.{List}
use mathlib.Core.Bool.{Bool, true, false, cond}
use mathlib.Core.Option.{Option, none, some}
use lib.ListN.{length}
use lib.Dec.{ltb}
use borrow.Author.Tests.{ltb-true}
use Rattle.lent.specs.Paper.{value, nothing, unless}
use Rattle.lent.specs.Table.{section_shape}
use Rattle.pe.specs.Header.{header_at, header_spec}
use Rattle.pe.specs.declared.header.ImageSectionHeader.{ImageSectionHeader}

of-value : (h k : ImageSectionHeader) (o : Option ℕ) (t : Bool) → value h ≡ unless o (cond t (value k) nothing)
    → t ≡ true
of-value h k none true e = refl
of-value h k none false e = cc
of-value h k (some n) t e = cc

pub found : (s : List ℕ) (i : ℕ) → value (header_at s i) ≡ header_spec s i → i < length s / 40
unfolding header_spec
found s i e =
    ltb-true i (length s / 40)
    (of-value (header_at s i) (header_at s i) (section_shape s) (ltb i (length s / 40)) e)
