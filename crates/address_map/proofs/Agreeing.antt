-- Where both sizes of every header agree the rules give one answer, for an address alone and along each path that ends
-- in a section. So what is known there of the raw size, that it equals pdb, is known of the default.
-- Assumes nothing.
use mathlib.Core.Path.{◌≡◌, refl, ap}
use Prim.Native.Nat.{ℕ, zero, suc, ◌+◌, ◌/◌, ◌≤◌, ◌<◌}
use native.Mathlib.Omega.{arith}
use mathlib.Core.Bool.{Bool, cond}
use mathlib.Core.List.{List}
use lib.ListN.{length}
use Rattle.lent.specs.Paper.{Told, value, nothing, refused, and_then, unless}
use Rattle.lent.specs.Table.{listed, section_shape}
use Rattle.omap.specs.Lookup.{lookup_spec}
use Rattle.pe.specs.Header.{header_at}
use Rattle.pe.specs.declared.extent.ExtentBy.{ExtentBy}
use Rattle.pe.specs.declared.extent.ExtentBy.TheVariants.{RawSize}
use Rattle.pe.proofs.Extents.{sizes-agree}
use Rattle.address_map.specs.Sections.{Offset, walk, section_spec}
use Rattle.address_map.specs.Paths.{cross_locate, place_cross, place_cross_locate}

-- both sizes agree in every header of a table
abbrev pub SizesAgree : List ℕ → Type 0
SizesAgree s = (i : ℕ) → i < length s / 40 → (header_at s i).virtual_size ≡ (header_at s i).size_of_raw_data

module _ (by : ExtentBy) (s : List ℕ) (agree : SizesAgree s) where
  walk-agrees : (n i a : ℕ) → i + n ≤ length s / 40
      → walk by a i (listed (header_at s) i n) ≡ walk RawSize a i (listed (header_at s) i n)
  unfolding walk listed
  walk-agrees zero i a h = refl
  walk-agrees (suc n) i a h =
      let same : i + 1 ≡ suc i = omega arith in
      rw (sizes-agree (header_at s i) by (agree i (omega arith)), same, walk-agrees n (suc i) a (omega arith))

  -- an address to its section
  pub section-agrees : (a : ℕ) → section_spec by s a ≡ section_spec RawSize s a
  unfolding section_spec
  section-agrees a = ap (unless (section_shape s)) (walk-agrees (length s / 40) 0 a (omega arith))

  then_agrees : (t : Told ℕ) → and_then t (section_spec by s) ≡ and_then t (section_spec RawSize s)
  then_agrees (value a) = section-agrees a
  then_agrees nothing = refl
  then_agrees (refused n) = refl

  -- through an OMAP to a section
  pub cross-locate-agrees : (present : Bool) (omap : List ℕ) (a : ℕ)
      → cross_locate by present omap s a ≡ cross_locate RawSize present omap s a
  unfolding cross_locate
  cross-locate-agrees present omap a = then_agrees (lookup_spec present omap a)

  -- from a section through an OMAP to a section of the other side
  pub place-cross-locate-agrees : (has_transformed : Bool) (from : List ℕ) (present : Bool) (omap : List ℕ) (x : Offset)
      → place_cross_locate by has_transformed from present omap s x
      ≡ place_cross_locate RawSize has_transformed from present omap s x
  unfolding place_cross_locate
  place-cross-locate-agrees has_transformed from present omap x =
      ap (λ (t : Told Offset). cond has_transformed t (value x)) (then_agrees (place_cross from present omap x))
