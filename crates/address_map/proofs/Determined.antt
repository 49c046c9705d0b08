-- Each promise leaves one answer: it can be read back from the paper's terms. Where a promise tells a plain address
-- (`get_virtual_address`, `place_cross`) omap's `one-looked` says so.
-- Assumes nothing.
use mathlib.Core.Path.{◌≡◌, refl, sym, ap, ◌∙◌}
use Prim.Native.Nat.{ℕ}
use Rattle.std.specs.Prelude.{Result, Ok, Err, Option as Maybe, Some, None}
use Rattle.lent.specs.Paper.{Told, sum_number, told}
use Rattle.lent.specs.declared.refusal.SumRefusal.{SumRefusal}
use Rattle.lent.proofs.Determined.{one_sum_number, one_told}
use Rattle.address_map.specs.Sections.{Offset}
use Rattle.address_map.specs.Told.{told_as, rva_of, internal_rva_of, offset_of, internal_offset_of}
use Rattle.address_map.specs.declared.Rva.{Rva}
use Rattle.address_map.specs.declared.PdbInternalRva.{PdbInternalRva}
use Rattle.address_map.specs.declared.SectionOffset.{SectionOffset}
use Rattle.address_map.specs.declared.PdbInternalSectionOffset.{PdbInternalSectionOffset}

-- where a promise tells a section and an offset: `get_section_offset`, `cross_locate`, `place_cross_locate`
pub one-located : (t : Told Offset) (r q : Result (Maybe Offset) SumRefusal) → told sum_number r ≡ t → told sum_number q ≡ t
    → r ≡ q
one-located t r q e f = one_told sum_number one_sum_number r q (e ∙ sym f)

-- where a promise tells what an answer stands for, and that is one value's alone
module _ {A B : Type 0} (plain : A → B) (one : (x y : A) → plain x ≡ plain y → x ≡ y) where
  one_as : (r q : Result (Maybe A) SumRefusal) → told_as plain r ≡ told_as plain q → r ≡ q
  one_as (Ok (Some x)) (Ok (Some y)) e = let p : plain x ≡ plain y = cc in ap (λ (z : A). Ok (Some z)) (one x y p)
  one_as (Ok (Some x)) (Ok None) e = cc
  one_as (Ok (Some x)) (Err w) e = cc
  one_as (Ok None) (Ok (Some y)) e = cc
  one_as (Ok None) (Ok None) e = refl
  one_as (Ok None) (Err w) e = cc
  one_as (Err v) (Ok (Some y)) e = cc
  one_as (Err v) (Ok None) e = cc
  one_as (Err v) (Err w) e = ap Err (one_sum_number v w (cc))

  one_answer_as : (t : Told B) (r q : Result (Maybe A) SumRefusal) → told_as plain r ≡ t → told_as plain q ≡ t → r ≡ q
  one_answer_as t r q e f = one_as r q (e ∙ sym f)

-- the conversions to an address of the actual image
pub one-rva : (t : Told ℕ) (r q : Result (Maybe Rva) SumRefusal) → told_as rva_of r ≡ t → told_as rva_of q ≡ t → r ≡ q
one-rva = one_answer_as rva_of (λ x y e. ap (λ (n : ℕ). record { 0 = n }) e)

-- to an address as it was before
pub one-internal-rva : (t : Told ℕ) (r q : Result (Maybe PdbInternalRva) SumRefusal) → told_as internal_rva_of r ≡ t
    → told_as internal_rva_of q ≡ t → r ≡ q
one-internal-rva = one_answer_as internal_rva_of (λ x y e. ap (λ (n : ℕ). record { 0 = n }) e)

-- to an offset in a section of the actual image
pub one-offset : (t : Told Offset) (r q : Result (Maybe SectionOffset) SumRefusal) → told_as offset_of r ≡ t
    → told_as offset_of q ≡ t → r ≡ q
one-offset =
    one_answer_as offset_of (λ x y e. ap (λ (p : Offset). record { offset = p.offset; section = p.section }) e)

-- to an offset in a section of the original image
pub one-internal-offset : (t : Told Offset) (r q : Result (Maybe PdbInternalSectionOffset) SumRefusal)
    → told_as internal_offset_of r ≡ t → told_as internal_offset_of q ≡ t → r ≡ q
one-internal-offset =
    one_answer_as internal_offset_of (λ x y e. ap (λ (p : Offset). record { offset = p.offset; section = p.section }) e)
