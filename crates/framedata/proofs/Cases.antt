-- Document 01's frame cases, over tables of bytes.
-- Assumes nothing.
use mathlib.Core.Path.{◌≡◌, refl}
use Prim.Native.Nat.{ℕ}
use mathlib.Core.Bool.{true, false}
use mathlib.Core.List.{List, [], ◌∷◌, ◌++◌, map}
use Rattle.lent.specs.Le.{le_at}
use Rattle.lent.specs.Paper.{Told, value, nothing, and_then}
use Rattle.lent.specs.Table.{listed, shape_fault}
use Rattle.lent.specs.Words.{or_else}
use Rattle.lent.specs.Order.{rising_after, rising, table_fault, last_at}
use Rattle.framedata.specs.Attributes.{attributes}
use Rattle.framedata.specs.Frame.{Frame, from_old, from_new}
use Rattle.framedata.specs.Step.{lesser, at_start, step_spec}
use Rattle.framedata.specs.Merge.{answers}
use Rattle.framedata.specs.Start.{place_spec, start_spec}

-- records with two bytes of code_start, one of code_size, and zeros
abbrev pub old_of : ℕ → ℕ → ℕ → List ℕ
old_of low high size = low ∷ high ∷ 0 ∷ 0 ∷ size ∷ 0 ∷ 0 ∷ 0 ∷ 0 ∷ 0 ∷ 0 ∷ 0 ∷ 0 ∷ 0 ∷ 0 ∷ 0 ∷ []

abbrev pub new_of : ℕ → ℕ → ℕ → List ℕ
new_of low high size = old_of low high size ++ (0 ∷ 0 ∷ 0 ∷ 0 ∷ 0 ∷ 0 ∷ 0 ∷ 0 ∷ 0 ∷ 0 ∷ 0 ∷ 0 ∷ 0 ∷ 0 ∷ 0 ∷ 0 ∷ [])

-- the type and the code start of each answer
abbrev pub shown : List (Told Frame) → List (Told (ℕ × ℕ))
shown l = map (λ (t : Told Frame). and_then t (λ (f : Frame). value (f.ty, f.code_start))) l

-- attributes C305: Standard, prolog 5, saved 12 (3 registers of 4 bytes), SEH (bit 9), no base pointer (bit 10)
pub attributes-C305 : attributes 0xC305
    ≡ record { ty = 3; prolog_size = 5; saved_regs = 3; has_seh = true; uses_base_pointer = false }
unfolding attributes
attributes-C305 = refl

-- new at 100, 200, old at 100, 180: new 100, old 180, new 200
pub old-between : shown (answers 4 (old_of 0 1 0 ++ old_of 0x80 1 0) (new_of 0 1 0 ++ new_of 0 2 0) at_start)
    ≡ value (4, 0x100) ∷ value (0, 0x180) ∷ value (4, 0x200) ∷ nothing ∷ []
unfolding le_at shape_fault attributes from_old from_new lesser step_spec answers
old-between = refl

-- new 100, 100 with old 100: both new
pub both-new : shown (answers 3 (old_of 0 1 0) (new_of 0 1 0 ++ new_of 0 1 0) at_start)
    ≡ value (4, 0x100) ∷ value (4, 0x100) ∷ nothing ∷ []
unfolding le_at shape_fault attributes from_old from_new lesser step_spec answers
both-new = refl

-- frames 100 size 40, then 200: starting at 150 begins with 200, at 13F with 100
pub starts : map (λ (a : ℕ). start_spec a (old_of 0 1 0x40 ++ old_of 0 2 0) []) (0x150 ∷ 0x13F ∷ [])
    ≡ value (record { old_index = 1; new_index = 0 }) ∷ value (record { old_index = 0; new_index = 0 }) ∷ []
unfolding le_at listed or_else shape_fault rising_after rising table_fault last_at place_spec start_spec
starts = refl
