-- Both tables together: their refusals, and whether they hold a frame at all.
use Rattle.std.specs.Prelude.{ℕ, ◌/◌, Bool, ◌&&◌, List, length, eqb}
use Rattle.std.proofs.Math.Option.{Option}
use Rattle.lent.specs.Paper.{Told, value, first_fault, unless}
use Rattle.lent.specs.Table.{old_frame_shape, new_frame_shape}
use Rattle.lent.specs.Order.{old_frame_fault, new_frame_fault}

-- 1, 2 of the old table, then 1, 2 of the new one
abbrev pub shape_of_both : List ℕ → List ℕ → Option ℕ
shape_of_both old new = first_fault (old_frame_shape old) (new_frame_shape new)

-- 1, 2, 3 of the old table, then 1, 2, 3 of the new one
abbrev pub fault_of_both : List ℕ → List ℕ → Option ℕ
fault_of_both old new = first_fault (old_frame_fault old) (new_frame_fault new)

-- whether neither table has a record
unfoldable pub empty_spec : List ℕ → List ℕ → Told Bool
empty_spec old new = unless (shape_of_both old new) (value (eqb (length old / 16) 0 && eqb (length new / 32) 0))
