-- A range cursor by value: where it starts, and its step on any table, field by field as `lookup_range` and
-- `RangeIter::next` go.
use Rattle.std.specs.Prelude.{ℕ, suc, Bool, cond, not, ◌&&◌, List, [], ◌∷◌, length, ltb, leb, eqb}
use Rattle.std.specs.Prelude.{Result, Ok, Err, Option as Maybe, Some, None}
use Rattle.std.proofs.Math.Option.{Option, none, some}
use Rattle.lent.specs.Order.{omap_fault}
use Rattle.lent.specs.Paper.{Told, value, unless}
use Rattle.lent.specs.Table.{if_present, omap_shape}
use Rattle.omap.specs.Records.{Entry, records, rest, holder_of}
use Rattle.omap.specs.Output.{beside_start, fits}
use Rattle.omap.specs.Turn.{Turn, turns}
use Rattle.omap.specs.Refusals.{step_number}
use Rattle.omap.specs.declared.cursor.Cursor.{Cursor}
use Rattle.omap.specs.declared.piece.Range.{Range}
use Rattle.omap.specs.declared.cursor.StepRefusal.{StepRefusal}
use Rattle.omap.specs.declared.cursor.Step.{Step}

-- how many records have a source of at most a: the place of the next record to pull
unfoldable pub count_up_to : ℕ → List Entry → ℕ
count_up_to a [] = 0
count_up_to a (x ∷ l) = cond (leb x.source a) (suc (count_up_to a l)) (count_up_to a l)

-- the cursor on a..b that holds a record, with the place of the next
abbrev pub onto : ℕ → ℕ → ℕ → Option Entry → Cursor
onto a b p none = record { address = a; end = b; source = 0; target = 0; place = p }
onto a b p (some x) = record { address = a; end = b; source = x.source; target = x.target; place = p }

-- a cursor on a..b: on the last record whose source is at most a, or on a record 0, 0; used up if b ≤ a
unfoldable pub start_on : List Entry → ℕ → ℕ → Cursor
start_on l a b =
    cond (leb b a)
    (record { address = 0; end = 0; source = 0; target = 0; place = length l })
    (onto a b (count_up_to a l) (holder_of a l))

-- 1, 2, 3 or a cursor; with no table, the cursor that `RangeIter::identity` makes
unfoldable pub start_spec : Bool → List ℕ → ℕ → ℕ → Told Cursor
start_spec present s a b =
    cond present
    (unless (omap_fault s) (value (start_on (records s) a b)))
    (value (record { address = a; end = b; source = a; target = a; place = 0 }))

-- what a step answers: a piece's start, what it shows beside it, and the next cursor; done, and the cursor left behind;
-- a refusal by its number, and the cursor as it was
pub data Stepped : Type 0 where
  piece : ℕ → ℕ → Cursor → Stepped
  done : Cursor → Stepped
  refused_at : ℕ → Cursor → Stepped

abbrev pub told_answer : Result (Maybe Range) StepRefusal → Cursor → Stepped
told_answer (Ok (Some r)) c = piece r.start r.end c
told_answer (Ok None) c = done c
told_answer (Err why) c = refused_at (step_number why) c

abbrev pub told_step : Step → Stepped
told_step s = told_answer s.answer s.cursor

-- a part is translated if it is not empty and its record is mapped
unfoldable pub translated : Turn → Bool
translated t = ltb 0 t.part.size && not (eqb t.owner.target 0)

-- 6 if it begins before its record's source, 4 if it does not fit, or the piece, in a step of the cursor c
unfoldable pub piece_or : Cursor → Turn → Stepped
piece_or c t =
    cond (leb t.owner.source t.part.at)
    (cond (fits t.part) (piece t.part.to (beside_start t.part) t.after) (refused_at 4 c))
    (refused_at 6 c)

-- the answer at the first turn whose part is translated; if there is none, done behind the last of them, or at k
unfoldable pub first_piece : Cursor → Cursor → List Turn → Stepped
first_piece c k [] = done k
first_piece c k (t ∷ l) = cond (translated t) (piece_or c t) (first_piece c t.after l)

abbrev pub unless_step : Option ℕ → Cursor → Stepped → Stepped
unless_step none c t = t
unless_step (some n) c t = refused_at n c

-- 1, 2, 6, 4, a piece, or done; a table marked absent has no records
unfoldable pub step_spec : Bool → List ℕ → Cursor → Stepped
step_spec present s c =
    unless_step (omap_shape (if_present present s)) c (first_piece c c (turns (rest (if_present present s) c.place) c))
