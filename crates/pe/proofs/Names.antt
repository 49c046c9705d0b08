-- The name of a section is a part of the first eight bytes of its header.
-- Assumes nothing.
use mathlib.Core.Path.{◌≡◌, refl, sym, ap, ◌∙◌}
use mathlib.Core.Logic.{◌⊎◌, inl, inr, ⊎_elim}
use Prim.Native.Nat.{ℕ, zero, suc, ◌+◌, ◌-◌, ◌*◌, ◌/◌, ◌≤◌, ◌<◌}
use native.Mathlib.Nat.{add-zero}
use native.Mathlib.Numerals.{add-one}
use native.Mathlib.Omega.{arith}
use mathlib.Core.Bool.{Bool, true, false, cond}
use mathlib.Core.List.{List, [], ◌∷◌}
use mathlib.Core.Option.{Option, none, some}
use lib.ListN.{length, take, drop, length-take}
use lib.Seq.{take-take}
use lib.Dec.{eqb, ltb}
use Rattle.lent.specs.Paper.{value, nothing, unless}
use Rattle.lent.specs.Table.{section_shape}
use Rattle.lent.proofs.Logic.{which}
use Rattle.pe.specs.Header.{header_at, header_spec}
use Rattle.utf8.specs.Text.{before_zero, if_utf8}
use Rattle.utf8.specs.Utf8.{utf8}
use Rattle.pe.specs.Name.{name_of, name_spec}
use Rattle.pe.specs.declared.header.ImageSectionHeader.{ImageSectionHeader}
use Rattle.pe.proofs.HeaderAnswers.{found}

before-front : (l : List ℕ) → before_zero l ≡ take (length (before_zero l)) l
unfolding before_zero
before-front [] = refl
before-front (b ∷ l) =
    ⊎_elim
    (λ (e : eqb b 0 ≡ true). rw e)
    (λ (e : eqb b 0 ≡ false). rw e (ap (λ (t : List ℕ). b ∷ t) (before-front l)))
    (which (eqb b 0))

-- the front of a list that a name is
pub front : (l : List ℕ) → take (length (if_utf8 (before_zero l))) l ≡ if_utf8 (before_zero l)
unfolding if_utf8
front l =
    ⊎_elim
    (λ (e : utf8 (before_zero l) ≡ true). rw e (sym (before-front l)))
    (λ (e : utf8 (before_zero l) ≡ false). rw e)
    (which (utf8 (before_zero l)))

-- the name in a header is that of its first eight bytes
pub name-held : (s : List ℕ) (i : ℕ) → if_utf8 (before_zero (take 8 (drop (40 * i) s))) ≡ name_of (value (header_at s i))
unfolding header_at
name-held s i = ap (λ (k : ℕ). if_utf8 (before_zero (take 8 (drop k s)))) (sym (add-zero (40 * i)))

-- so is that of a header that the table has
pub name-there : (s : List ℕ) (i : ℕ) → value (header_at s i) ≡ header_spec s i
    → if_utf8 (before_zero (take 8 (drop (40 * i) s))) ≡ name_spec s (i + 1)
unfolding name_spec
name-there s i v = rw (add-one, ← v) (name-held s i)

-- a header is there, or the name is empty
there-or-empty : (o : Option ℕ) (t : Bool) (h : ImageSectionHeader)
    → (value h ≡ unless o (cond t (value h) nothing)) ⊎ (name_of (unless o (cond t (value h) nothing)) ≡ [])
there-or-empty none true h = inl refl
there-or-empty none false h = inr refl
there-or-empty (some n) t h = inr refl

-- a name lies in the table, at the start of its header
pub record Lies (s : List ℕ) (n : ℕ) : Type 0 where
  pub numbered : 0 < length (name_spec s n) → 0 < n
  pub inside : 0 < length (name_spec s n) → 40 * (n - 1) + length (name_spec s n) ≤ length s
  pub part : name_spec s n ≡ take (length (name_spec s n)) (drop (40 * (n - 1)) s)

lies_empty : (s : List ℕ) (n : ℕ) → name_spec s n ≡ [] → Lies s n
lies_empty s n e =
    let z : length (name_spec s n) ≡ 0 = ap length e in
    record { numbered = λ h. absurd (omega arith); inside = λ h. absurd (omega arith); part = rw e }

module _ (s : List ℕ) (i : ℕ) where
  lies-there : value (header_at s i) ≡ header_spec s i → Lies s (suc i)
  lies-there v =
      let eight = take 8 (drop (40 * i) s) in
      let p = if_utf8 (before_zero eight) in
      let part = length-take (length p) eight in
      let short : length p ≤ 8 = omega (arith, ap length (front eight), part, length-take 8 (drop (40 * i) s)) in
      let q : p ≡ take (length p) (drop (40 * i) s) = sym (front eight) ∙ take-take (length p) 8 (drop (40 * i) s) short in
      let one : suc i - 1 ≡ i = omega arith in
      let held : p ≡ name_spec s (suc i) = name-there s i v ∙ rw add-one in
      record {
        numbered = λ h. omega arith;
        inside = λ h. omega (arith, found s i v, ap length held);
        part = rw (← held, one) q;
      }

pub lies : (s : List ℕ) (n : ℕ) → Lies s n
unfolding name_spec header_spec
lies s zero = lies_empty s 0 refl
lies s (suc i) =
    ⊎_elim
    (λ (v : value (header_at s i) ≡ header_spec s i). lies-there s i v)
    (λ (e : name_of (header_spec s i) ≡ []). lies_empty s (suc i) e)
    (there-or-empty (section_shape s) (ltb i (length s / 40)) (header_at s i))
