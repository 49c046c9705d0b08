-- Where a header's two sizes agree, both rules give the same extent.
-- Assumes nothing.
use mathlib.Core.Path.{◌≡◌, refl}
use Prim.Native.Nat.{ℕ}
use mathlib.Core.Bool.{Bool, true, false, cond}
use lib.Dec.{eqb}
use Rattle.pe.specs.Extent.{extent}
use Rattle.pe.specs.declared.header.ImageSectionHeader.{ImageSectionHeader}
use Rattle.pe.specs.declared.extent.ExtentBy.{ExtentBy}
use Rattle.pe.specs.declared.extent.ExtentBy.TheVariants.{MemorySize, RawSize}

either : (t : Bool) (n : ℕ) → cond t n n ≡ n
either true n = refl
either false n = refl

pub sizes-agree : (h : ImageSectionHeader) (by : ExtentBy) → h.virtual_size ≡ h.size_of_raw_data
    → extent by h ≡ extent RawSize h
unfolding extent
sizes-agree h MemorySize e = rw e (either (eqb h.size_of_raw_data 0) h.size_of_raw_data)
sizes-agree h RawSize e = refl
