-- What the cursor's own functions hand each other. No public promise cites this file.
use Rattle.std.specs.Prelude.{◌+◌, cond, List, [], ◌∷◌, leb, Result, Ok, Err, Option as Maybe, Some, None}
use Rattle.omap.specs.Records.{Entry}
use Rattle.omap.specs.Output.{fits}
use Rattle.omap.specs.Told.{as_range}
use Rattle.omap.specs.Turn.{Turn, turn_with, end_of}
use Rattle.omap.specs.Refusals.{step_number}
use Rattle.omap.specs.Step.{Stepped, refused_at, told_answer, translated}
use Rattle.omap.specs.declared.cursor.Cursor.{Cursor}
use Rattle.omap.specs.declared.piece.Range.{Range}
use Rattle.omap.specs.declared.cursor.StepRefusal.{StepRefusal}
use Rattle.omap.specs.declared.cursor.StepRefusal.TheVariants.{Early, TooLarge}
use Rattle.omap.specs.declared.cursor.Turned.{Turned}

-- the first turn of a cursor
abbrev pub next_turn : List Entry → Cursor → Turn
next_turn [] c = turn_with (end_of c) c.place c
next_turn (x ∷ l) c = turn_with x (c.place + 1) c

-- a turn as the code tells it
unfoldable pub turned_by : Turn → Result Turned StepRefusal
turned_by t =
    cond (translated t)
    (cond (leb t.owner.source t.part.at)
    (cond (fits t.part)
    (Ok (record { range = Some (as_range t.part); next = t.after }))
    (Err TooLarge))
    (Err Early))
    (Ok (record { range = None; next = t.after }))

-- how far the cursor c has gone on, where it is now, and what it has found
abbrev pub advanced : Cursor → Cursor → Result (Maybe Range) StepRefusal → Stepped
advanced c now (Ok found) = told_answer (Ok found) now
advanced c now (Err why) = refused_at (step_number why) c
