-- The search by halving, on any table, in order or not.
use Rattle.std.specs.Prelude.{ℕ, zero, suc, ◌+◌, ◌-◌, ◌/◌, cond, List, length, leb, eqb}
use Rattle.lent.specs.Order.{key_at}
use Rattle.lent.specs.declared.searches.Searched.{Searched}

-- a run of records: the place of its first, how many there are, and how many were probed on the way to it
pub record Run : Type 0 where
  pub place : ℕ
  pub size : ℕ
  pub probes : ℕ

-- the record that is probed: the one at floor(size / 2) of the run
abbrev pub middle : Run → ℕ
middle r = r.place + r.size / 2

-- the records after it, and those before it
abbrev pub after : Run → Run
after r = record { place = middle r + 1; size = r.size - (r.size / 2 + 1); probes = r.probes + 1 }

abbrev pub before : Run → Run
before r = record { place = r.place; size = r.size / 2; probes = r.probes + 1 }

-- what is left after a probe: the records after the probed one if its key is at most a, else those before it
unfoldable pub probed : ℕ → List ℕ → ℕ → Run → Run
probed w s a r = cond (leb (key_at w s (middle r)) a) (after r) (before r)

-- probe after probe, at most n of them, while the run is not empty
unfoldable pub halved : ℕ → List ℕ → ℕ → ℕ → Run → Run
halved w s a zero r = r
halved w s a (suc n) r = cond (eqb r.size 0) r (halved w s a n (probed w s a r))

-- all whole records of the table, none of them probed
abbrev pub whole : ℕ → List ℕ → Run
whole w s = record { place = 0; size = length s / w; probes = 0 }

-- the empty run that the whole table ends in: a probe makes a run shorter, so as many probes as there are records are
-- enough (`used-up`)
abbrev pub ended : ℕ → List ℕ → ℕ → Run
ended w s a = halved w s a (length s / w) (whole w s)

-- the final place, and the number of records probed, where a record has w bytes
unfoldable pub binary_search : ℕ → List ℕ → ℕ → Searched
binary_search w s a = record { place = (ended w s a).place; probes = (ended w s a).probes }
