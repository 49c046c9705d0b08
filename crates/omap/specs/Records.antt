-- The records of an OMAP table, and document 01's single translation.
use Rattle.std.specs.Prelude.{ℕ, ◌+◌, ◌-◌, ◌*◌, ◌/◌, cond, List, map, length, eqb}
use Rattle.std.proofs.Math.Option.{Option, none, some}
use Rattle.lent.specs.Le.{le_at}
use Rattle.lent.specs.Table.{listed}
use Rattle.lent.specs.Order.{last_at}
pub use Rattle.omap.specs.declared.lookups.Entry.{Entry}

-- OMAP record, 8 bytes, `Entry`: source at 0, target at 4, each 4 bytes

-- the record at place i
abbrev pub entry_at : List ℕ → ℕ → Entry
entry_at s i = record { source = le_at 4 s (8 * i); target = le_at 4 s (8 * i + 4) }

-- the records from place i on
abbrev pub rest : List ℕ → ℕ → List Entry
rest s i = listed (entry_at s) i (length s / 8 - i)

-- all whole records of a table
unfoldable pub records : List ℕ → List Entry
records s = listed (entry_at s) 0 (length s / 8)

abbrev pub sources : List Entry → List ℕ
sources l = map (λ (x : Entry). x.source) l

-- the record that holds an address: the last one whose source is at most it
abbrev pub holder_of : ℕ → List Entry → Option Entry
holder_of a l = last_at (λ (x : Entry). x.source) a l

-- where a record takes an address, as an unbounded number: nowhere if its target is 0
unfoldable pub moved : ℕ → Option Entry → Option ℕ
moved a none = none
moved a (some e) = cond (eqb e.target 0) none (some (a - e.source + e.target))

-- the single translation of an address, as an unbounded number
unfoldable pub single : List Entry → ℕ → Option ℕ
single l a = moved a (holder_of a l)
