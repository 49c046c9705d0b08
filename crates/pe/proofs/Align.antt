-- Where all four bits of the alignment are set, there is none.
-- Assumes nothing.
use mathlib.Core.Path.{◌≡◌}
use Prim.Native.Nat.{ℕ, ◌≤◌, ◌<◌}
use mathlib.Core.Bool.{false}
use borrow.Author.Tests.{le-leb, lt-leb}
use Rattle.lent.specs.Paper.{nothing}
use Rattle.pe.specs.Flags.{image_scn_type_no_pad, has, align_bits, alignment_spec}

pub all_bits : (x : ℕ) → has image_scn_type_no_pad x ≡ false → 1 ≤ align_bits x → 14 < align_bits x
    → nothing ≡ alignment_spec x
unfolding alignment_spec
all_bits x no-pad some-bit h = rw (no-pad, le-leb 1 (align_bits x) some-bit, lt-leb (align_bits x) 14 h)
