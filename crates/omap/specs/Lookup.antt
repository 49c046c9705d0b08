-- What `record_at` and `lookup` answer.
use Rattle.std.specs.Prelude.{ℕ, ◌/◌, Bool, cond, List, length, ltb}
use Rattle.std.proofs.Math.Option.{Option, none, some}
use Rattle.lent.specs.Order.{omap_fault}
use Rattle.lent.specs.Paper.{Told, value, nothing, refused, unless, fitted}
use Rattle.lent.specs.Table.{omap_shape}
use Rattle.omap.specs.Records.{Entry, entry_at, records, single}

-- the record at a place: 1, 2, none past the last
unfoldable pub record_spec : List ℕ → ℕ → Told Entry
record_spec s i = unless (omap_shape s) (cond (ltb i (length s / 8)) (value (entry_at s i)) nothing)

-- the single translation: 1, 2, 3, none or 4; with no table, the address itself
unfoldable pub lookup_spec : Bool → List ℕ → ℕ → Told ℕ
lookup_spec present s a = cond present (unless (omap_fault s) (fitted (single (records s) a))) (value a)

-- where the single lookup takes an address: none where it answers with a hole or a refusal
abbrev pub value_of : Told ℕ → Option ℕ
value_of (value t) = some t
value_of nothing = none
value_of (refused n) = none

abbrev pub looked_up : Bool → List ℕ → ℕ → Option ℕ
looked_up present s x = value_of (lookup_spec present s x)
