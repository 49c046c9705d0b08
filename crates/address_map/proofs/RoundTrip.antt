-- From an address to a section and back gives the address; and, where the extents rise and lie apart, from a place in a
-- section to its address and back gives the place.
-- Assumes nothing.
use mathlib.Core.Path.{◌≡◌, refl, sym, ap, ◌∙◌, subst}
use mathlib.Core.Logic.{◌⊎◌, inl, inr, ⊎_elim}
use Prim.Native.Nat.{ℕ, zero, suc, ◌+◌, ◌-◌, ◌/◌, ◌≤◌, ◌<◌}
use native.Mathlib.Omega.{arith}
use mathlib.Core.Bool.{Bool, true, false, cond}
use mathlib.Core.List.{List}
use mathlib.Core.Option.{Option, none, some}
use lib.ListN.{length}
use lib.Dec.{ltb, leb}
use borrow.Author.Tests.{leb-true}
use Rattle.lent.specs.Paper.{Told, value, nothing, unless}
use Rattle.lent.specs.Table.{listed, section_shape}
use Rattle.pe.specs.Header.{header_at}
use Rattle.pe.specs.declared.extent.ExtentBy.{ExtentBy}
use Rattle.address_map.specs.Sections.{Offset, in_section, walk, section_spec, address_spec}
use Rattle.address_map.proofs.Walks.{rest, start, extent_at, walk_here, walk-on, section-good, address-at}

-- the place of the header in which an address was found
pub record InHeader (s : List ℕ) (a : ℕ) (x : Offset) : Type 0 where
  pub place : ℕ
  pub within : place < length s / 40
  pub below : start s place ≤ a
  pub is : x ≡ in_section (place + 1) (a - start s place)

-- what a walk's turn at a header gave: the place in it, or what the walk gives from the next on
turn : (v e : Bool) (y x : Offset) (t : Told Offset) → cond v (cond e (value y) t) nothing ≡ value x
    → (v ≡ true) × ((x ≡ y) ⊎ (t ≡ value x))
turn true true y x t h = (refl, inl (cc))
turn true false y x t h = (refl, inr h)
turn false e y x t h = ((cc), inr (cc))

-- a walk that finds the address
found_from : (by : ExtentBy) (s : List ℕ) (a i n : ℕ) (x : Offset) → i + n ≤ length s / 40
    → walk by a i (listed (header_at s) i n) ≡ value x → InHeader s a x
unfolding walk listed
found_from by s a i zero x w h = let c : ◌≡◌ {A = ℕ} 0 1 = cc in absurd (omega arith)
found_from by s a i (suc n) x w h =
    let y = in_section (i + 1) (a - start s i) in
    let later = listed (header_at s) (suc i) n in
    let k = turn (leb (start s i) a) (ltb (a - start s i) (extent_at by s i)) y x (walk by a (i + 1) later) h in
    let b : start s i ≤ a = leb-true (start s i) a k.0 in
    let same : i + 1 ≡ suc i = omega arith in
    ⊎_elim
    (λ (q : x ≡ y). record { place = i; within = omega arith; below = b; is = q })
    (λ (q : walk by a (i + 1) later ≡ value x).
    found_from by s a (suc i) n x (omega arith) (subst (λ (j : ℕ). walk by a j later ≡ value x) same q))
    k.1

good_of : (f : Option ℕ) (t : Told Offset) (x : Offset) → unless f t ≡ value x → (none ≡ f) × (t ≡ value x)
good_of none t x e = (refl, e)
good_of (some n) t x e = ((cc), (cc))

-- there and back: no order is asked of the headers
pub address-back : (by : ExtentBy) (s : List ℕ) (a : ℕ) (x : Offset) → a ≤ 4294967295 → section_spec by s a ≡ value x
    → address_spec s x ≡ value a
unfolding section_spec
address-back by s a x h e =
    let g = good_of (section_shape s) (walk by a 0 (listed (header_at s) 0 (length s / 40))) x e in
    let f = found_from by s a 0 (length s / 40) x (omega arith) g.1 in
    let i = f.place in
    let sum : start s i + (a - start s i) ≡ a = omega (arith, f.below) in
    ap (address_spec s) f.is
    ∙ sym (address-at s (i + 1) (a - start s i) g.0 i refl f.within (omega arith))
    ∙ ap value sum

-- each extent ends where the next begins, or before
abbrev pub Apart : ExtentBy → List ℕ → Type 0
Apart by s = (j k : ℕ) → j < k → k < length s / 40 → start s j + extent_at by s j ≤ start s k

-- the header at place k holds the address
record Holds (by : ExtentBy) (s : List ℕ) (a k : ℕ) : Type 0 where
  pub within : k < length s / 40
  pub below : start s k ≤ a
  pub inside : a - start s k < extent_at by s k

module _ (by : ExtentBy) (s : List ℕ) (apart : Apart by s) (a : ℕ) where
  -- the walk from i on reaches the header at i + d
  reach : (d i : ℕ) → Holds by s a (i + d) → walk by a i (rest s i) ≡ value (in_section (i + d + 1) (a - start s (i + d)))
  reach zero i k =
      let e : i + zero ≡ i = omega arith in
      let h : Holds by s a i = subst (Holds by s a) e k in
      walk_here by s a i h.within h.below h.inside
      ∙ ap (λ (j : ℕ). value (in_section (j + 1) (a - start s j))) (sym e)
  reach (suc d) i k =
      let e : i + suc d ≡ (i + 1) + d = omega arith in
      let b : start s (i + suc d) ≤ a = k.below in
      let o : start s i + extent_at by s i ≤ start s (i + suc d) = apart i (i + suc d) (omega arith) k.within in
      walk-on by s a i (omega (arith, k.within)) (omega arith) (omega arith)
      ∙ reach d (i + 1) (subst (Holds by s a) e k)
      ∙ ap (λ (j : ℕ). value (in_section (j + 1) (a - start s j))) (sym e)

-- back and there: a place inside the extent of a header
pub section-back : (by : ExtentBy) (s : List ℕ) → none ≡ section_shape s → Apart by s → (j o : ℕ) → j < length s / 40 → o < extent_at by s j
    → section_spec by s (start s j + o) ≡ value (in_section (j + 1) o)
section-back by s good apart j o w l =
    let a = start s j + o in
    let z : 0 + j ≡ j = omega arith in
    let h : Holds by s a j = record { within = w; below = omega arith; inside = omega arith } in
    let into : a - start s j ≡ o = omega arith in
    section-good by s a good
    ∙ reach by s apart a j 0 (subst (Holds by s a) (sym z) h)
    ∙ ap (λ (k : ℕ). value (in_section (k + 1) (a - start s k))) z
    ∙ ap (λ (k : ℕ). value (in_section (j + 1) k)) into
