-- Starting an iteration at an address.
use Rattle.std.specs.Prelude.{◌≡◌, ◌⊎◌, ℕ, ◌+◌, ◌-◌, ◌/◌, ◌≤◌, ◌<◌, Bool, true, cond, ◌||◌, List, length, ltb, eqb}
use Rattle.std.proofs.Math.Option.{Option, none, some}
use Rattle.lent.specs.Paper.{Told, value, unless}
use Rattle.lent.specs.Order.{last_at}
use Rattle.framedata.specs.Records.{Span, span_at, spans}
use Rattle.framedata.specs.Tables.{fault_of_both}
use Rattle.framedata.specs.declared.cursor.FrameCursor.{FrameCursor}

-- of a record that begins at a or before it: an exact hit, or code that reaches past a
abbrev pub covers : ℕ → Span → Bool
covers a x = eqb x.code_start a || ltb (a - x.code_start) x.code_size

-- the record's place if it covers a, else the place after it; earlier enclosing ones are not sought
abbrev pub place_by : ℕ → Option Span → ℕ
place_by a none = 0
place_by a (some x) = cond (covers a x) x.place (x.place + 1)

-- where a table is entered: by the last record that begins at address a or before it
unfoldable pub place_spec : ℕ → List Span → ℕ
place_spec a l = place_by a (last_at (λ (x : Span). x.code_start) a l)

-- What the place k stands for in a table in order. The records before it begin before a, those after it begin after a,
-- and the one there, if any, covers a or begins after it. Where the record just before it covers a, the one there
-- begins at a or before it: of two that cover a it is the later. This leaves one place (`one-entered`).
pub record Entered (w : ℕ) (s : List ℕ) (a k : ℕ) : Type 0 where
  pub within : k ≤ length s / w
  pub before : (j : ℕ) → j < k → (span_at w s j).code_start < a
  pub after : (j : ℕ) → k < j → j < length s / w → a < (span_at w s j).code_start
  pub there : k < length s / w → (covers a (span_at w s k) ≡ true) ⊎ (a < (span_at w s k).code_start)
  pub later : 0 < k → covers a (span_at w s (k - 1)) ≡ true → (k < length s / w) × ((span_at w s k).code_start ≤ a)

-- the refusals of both tables, or the place in each
unfoldable pub start_spec : ℕ → List ℕ → List ℕ → Told FrameCursor
start_spec a old new =
    unless (fault_of_both old new)
    (value (record { old_index = place_spec a (spans 16 old); new_index = place_spec a (spans 32 new) }))
