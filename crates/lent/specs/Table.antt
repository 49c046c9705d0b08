-- A table in lent bytes: its kind, its records, and the refusals 1 and 2 that its length gives.
use Rattle.std.specs.Prelude.{ℕ, zero, suc, ◌/◌, ◌%◌, Bool, cond, List, [], ◌∷◌, length, leb, eqb}
use Rattle.std.specs.Prelude.{Option as Maybe, Some, None}
use Rattle.std.specs.Borrow.{Bor}
use Rattle.std.proofs.Math.Option.{Option, none, some}

-- what f gives at n places, from place i on
unfoldable pub listed : {A : Type 0} → (ℕ → A) → ℕ → ℕ → List A
listed f i zero = []
listed f i (suc n) = f i ∷ listed f (suc i) n

-- a table behind its mark: marked absent, it counts as empty, whatever bytes are lent with it
abbrev pub if_present : Bool → List ℕ → List ℕ
if_present present s = cond present s []

-- the bytes of a table that may be absent: of an absent one, none
abbrev pub bytes_of : Maybe (Bor (List ℕ)) → List ℕ
bytes_of (Some table) = table.now
bytes_of None = []

-- a kind of table: bytes a record, and most records
pub record Kind : Type 0 where
  pub width : ℕ
  pub most : ℕ

-- document 01's tables
abbrev pub omap_table : Kind
omap_table = record { width = 8; most = 1048576 }

abbrev pub section_table : Kind
section_table = record { width = 40; most = 65535 }

abbrev pub old_frame_table : Kind
old_frame_table = record { width = 16; most = 1048576 }

abbrev pub new_frame_table : Kind
new_frame_table = record { width = 32; most = 1048576 }

-- 1: the length is no multiple of the record's width; 2: there are more records than allowed
unfoldable pub shape_fault : Kind → List ℕ → Option ℕ
shape_fault k s = cond (eqb (length s % k.width) 0) (cond (leb (length s / k.width) k.most) none (some 2)) (some 1)

abbrev pub omap_shape : List ℕ → Option ℕ
omap_shape = shape_fault omap_table

abbrev pub section_shape : List ℕ → Option ℕ
section_shape = shape_fault section_table

abbrev pub old_frame_shape : List ℕ → Option ℕ
old_frame_shape = shape_fault old_frame_table

abbrev pub new_frame_shape : List ℕ → Option ℕ
new_frame_shape = shape_fault new_frame_table
