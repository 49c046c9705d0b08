-- What `quick_lookup` answers: a lookup that does not test the order, and reports the records that it probed.
use Rattle.std.specs.Prelude.{ℕ, zero, suc, Bool, cond, List, Result, Ok, Err}
use Rattle.std.proofs.Math.Option.{Option, none, some}
use Rattle.lent.specs.Paper.{Told, value, nothing, refused, unless, sum_number, fitted}
use Rattle.lent.specs.Table.{omap_shape}
use Rattle.lent.specs.Search.{binary_search}
use Rattle.lent.specs.Words.{optional}
use Rattle.lent.specs.declared.refusal.SumRefusal.{SumRefusal}
use Rattle.lent.specs.declared.searches.Searched.{Searched}
use Rattle.omap.specs.Records.{Entry, entry_at, moved}
use Rattle.omap.specs.declared.lookups.Quick.{Quick}

-- a translation, or none, and the number of records probed for it
pub record Probed : Type 0 where
  pub translation : Option ℕ
  pub probes : ℕ

-- an answer with the number of records probed for it, which none has too; a refusal reports none
abbrev pub reported : ℕ → Told ℕ → Told Probed
reported n (value t) = value (record { translation = some t; probes = n })
reported n nothing = value (record { translation = none; probes = n })
reported n (refused why) = refused why

abbrev pub told_quick : Result Quick SumRefusal → Told Probed
told_quick (Ok q) = value (record { translation = optional q.translation; probes = q.probes })
told_quick (Err why) = refused (sum_number why)

-- the record just before a place
abbrev pub record_before : List ℕ → ℕ → Option Entry
record_before s zero = none
record_before s (suc i) = some (entry_at s i)

-- the record just before the final place of a search answers
abbrev pub answered_at : List ℕ → ℕ → Searched → Told Probed
answered_at s a found = reported found.probes (fitted (moved a (record_before s found.place)))

-- 1, 2, and never 3: then what the search's steps give, or 4; with no table, the address itself, and none probed
unfoldable pub quick_spec : Bool → List ℕ → ℕ → Told Probed
quick_spec present s a =
    cond present (unless (omap_shape s) (answered_at s a (binary_search 8 s a))) (reported 0 (value a))

-- an answer as the full lookup tells it
abbrev pub told_of : Option ℕ → Told ℕ
told_of none = nothing
told_of (some t) = value t

abbrev pub without_probes : Told Probed → Told ℕ
without_probes (value p) = told_of p.translation
without_probes nothing = nothing
without_probes (refused why) = refused why
