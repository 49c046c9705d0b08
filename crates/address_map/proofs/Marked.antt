-- Tables behind marks, as C lends them, and the same as optional ones: what a path answers of the one it answers of the
-- other, since of a table that is marked absent no byte counts.
-- Assumes nothing.
use mathlib.Core.Path.{◌≡◌, refl, ap}
use Prim.Native.Nat.{ℕ}
use mathlib.Core.Bool.{Bool, true, false, cond}
use mathlib.Core.List.{List}
use Rattle.std.specs.Prelude.{Option as Maybe, Some, None, is_some}
use Rattle.std.specs.Borrow.{Bor}
use Rattle.lent.specs.Paper.{Told, value, nothing, refused, and_then}
use Rattle.lent.specs.Table.{bytes_of}
use Rattle.omap.specs.Lookup.{lookup_spec}
use Rattle.pe.specs.declared.extent.ExtentBy.{ExtentBy}
use Rattle.address_map.specs.Sections.{Offset, section_spec, address_spec}
use Rattle.address_map.specs.Paths.{actual, cross_locate, place_cross, place_cross_locate}

-- an optional table that is there exactly where its mark says so
abbrev pub optional_table : Bool → Bor (List ℕ) → Maybe (Bor (List ℕ))
optional_table present table = cond present (Some table) None

pub actual-marked : (o : Bool) (s : Bor (List ℕ)) (t : Bool) (u : Bor (List ℕ))
    → actual (is_some (optional_table o s)) (bytes_of (optional_table o s)) (is_some (optional_table t u)) (bytes_of (optional_table t u))
    ≡ actual o s.now t u.now
actual-marked true s true u = refl
actual-marked true s false u = refl
actual-marked false s true u = refl
actual-marked false s false u = refl

pub lookup-marked : (p : Bool) (t : Bor (List ℕ)) (a : ℕ)
    → lookup_spec (is_some (optional_table p t)) (bytes_of (optional_table p t)) a ≡ lookup_spec p t.now a
unfolding lookup_spec
lookup-marked true t a = refl
lookup-marked false t a = refl

pub cross-locate-marked : (by : ExtentBy) (p : Bool) (t : Bor (List ℕ)) (s : List ℕ) (a : ℕ)
    → cross_locate by (is_some (optional_table p t)) (bytes_of (optional_table p t)) s a ≡ cross_locate by p t.now s a
unfolding cross_locate
cross-locate-marked by p t s a = ap (λ (x : Told ℕ). and_then x (section_spec by s)) (lookup-marked p t a)

crossed-marked : (p : Bool) (t : Bor (List ℕ)) (x : Told ℕ)
    → and_then x (lookup_spec (is_some (optional_table p t)) (bytes_of (optional_table p t))) ≡ and_then x (lookup_spec p t.now)
crossed-marked p t (value a) = lookup-marked p t a
crossed-marked p t nothing = refl
crossed-marked p t (refused n) = refl

pub place-cross-marked : (s : List ℕ) (p : Bool) (t : Bor (List ℕ)) (x : Offset)
    → place_cross s (is_some (optional_table p t)) (bytes_of (optional_table p t)) x ≡ place_cross s p t.now x
unfolding place_cross
place-cross-marked s p t x = crossed-marked p t (address_spec s x)

module _ (by : ExtentBy) (p : Bool) (t : Bor (List ℕ)) (x : Offset) where
  located-marked : (from to : List ℕ)
      → and_then (place_cross from (is_some (optional_table p t)) (bytes_of (optional_table p t)) x) (section_spec by to)
      ≡ and_then (place_cross from p t.now x) (section_spec by to)
  located-marked from to = ap (λ (r : Told ℕ). and_then r (section_spec by to)) (place-cross-marked from p t x)

  -- from the transformed sections
  pub from-transformed-marked : (h : Bool) (u : Bor (List ℕ)) (s : List ℕ)
      → place_cross_locate by (is_some (optional_table h u)) (bytes_of (optional_table h u)) (is_some (optional_table p t))
      (bytes_of (optional_table p t)) s x ≡ place_cross_locate by h u.now p t.now s x
  unfolding place_cross_locate
  from-transformed-marked true u s = located-marked u.now s
  from-transformed-marked false u s = refl

  -- to them
  pub to-transformed-marked : (s : List ℕ) (h : Bool) (u : Bor (List ℕ))
      → place_cross_locate by (is_some (optional_table h u)) s (is_some (optional_table p t)) (bytes_of (optional_table p t))
      (bytes_of (optional_table h u)) x ≡ place_cross_locate by h s p t.now u.now x
  unfolding place_cross_locate
  to-transformed-marked s true u = located-marked s u.now
  to-transformed-marked s false u = refl

-- what a conversion of the face needs, whose tables are lent behind marks
pub ruleset marked_tables =
    (actual-marked, lookup-marked, cross-locate-marked, place-cross-marked, from-transformed-marked, to-transformed-marked)
