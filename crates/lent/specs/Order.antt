-- The order of a table. A record's key is its first field: the source of an OMAP record, the code start of a frame.
use Rattle.std.specs.Prelude.{ℕ, ◌*◌, ◌/◌, ◌≤◌, ◌<◌, Bool, true, cond, ◌&&◌, List, [], ◌∷◌, length, ltb, leb}
use Rattle.std.proofs.Math.Option.{Option, none, some}
use Rattle.lent.specs.Le.{le_at}
use Rattle.lent.specs.Paper.{first_fault}
use Rattle.lent.specs.Table.{listed, Kind, omap_table, old_frame_table, new_frame_table, shape_fault}
use Rattle.lent.specs.Words.{or_else}

-- each number is greater than the one before it, the first than p
unfoldable pub rising_after : ℕ → List ℕ → Bool
rising_after p [] = true
rising_after p (x ∷ l) = ltb p x && rising_after x l

-- each number is greater than the one before it
unfoldable pub rising : List ℕ → Bool
rising [] = true
rising (x ∷ l) = rising_after x l

-- the key of the record at place i, where a record has w bytes
abbrev pub key_at : ℕ → List ℕ → ℕ → ℕ
key_at w s i = le_at 4 s (w * i)

-- the keys of all whole records, in order of place
abbrev pub keys : ℕ → List ℕ → List ℕ
keys w s = listed (key_at w s) 0 (length s / w)

-- 3: a key is not greater than the one before it
abbrev pub order_fault : ℕ → List ℕ → Option ℕ
order_fault w s = cond (rising (keys w s)) none (some 3)

-- 1, then 2, then 3
unfoldable pub table_fault : Kind → List ℕ → Option ℕ
table_fault k s = first_fault (shape_fault k s) (order_fault k.width s)

abbrev pub omap_fault : List ℕ → Option ℕ
omap_fault = table_fault omap_table

abbrev pub old_frame_fault : List ℕ → Option ℕ
old_frame_fault = table_fault old_frame_table

abbrev pub new_frame_fault : List ℕ → Option ℕ
new_frame_fault = table_fault new_frame_table

-- the last element whose key is at most a
unfoldable pub last_at : {A : Type 0} → (A → ℕ) → ℕ → List A → Option A
last_at key a [] = none
last_at key a (x ∷ l) = or_else (last_at key a l) (cond (leb (key x) a) (some x) none)

-- r is the place of the first record whose key is above a: those before it, and no others, have a key of at most a
pub record FirstAbove (w : ℕ) (s : List ℕ) (a r : ℕ) : Type 0 where
  pub within : r ≤ length s / w
  pub below : (j : ℕ) → j < r → key_at w s j ≤ a
  pub above : (j : ℕ) → r ≤ j → j < length s / w → a < key_at w s j
