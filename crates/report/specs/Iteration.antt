-- An iteration over both tables as a list of answers.
use Rattle.std.specs.Prelude.{ℕ, List, [], ◌∷◌, cond, Option as Maybe, Some, None}
use Rattle.std.proofs.Math.Option.{Option, none, some}
use Rattle.lent.specs.Paper.{Told, value, nothing, refused}
use Rattle.lent.specs.Table.{bytes_of}
use Rattle.framedata.specs.Frame.{Frame}
use Rattle.framedata.specs.Tables.{shape_of_both}
use Rattle.framedata.specs.Step.{Pick, frame, pick_fits}
use Rattle.framedata.specs.Merge.{left}
use Rattle.framedata.specs.declared.cursor.FrameCursor.{FrameCursor}
use Rattle.report.specs.declared.iteration.Iteration.{Iteration}

-- each frame that is yielded, up to the first that is too large, which brings refusal 4
unfoldable pub answered : List Pick → List (Told Frame)
answered [] = []
answered (p ∷ l) = cond (pick_fits p) (value (frame p) ∷ answered l) (refused 4 ∷ [])

-- a refusal of the tables is the only answer
abbrev pub after_fault : Option ℕ → List (Told Frame) → List (Told Frame)
after_fault none l = l
after_fault (some n) l = refused n ∷ []

-- what is answered from a cursor on; nothing where there is none
abbrev pub answers_left : List ℕ → List ℕ → Maybe FrameCursor → List (Told Frame)
answers_left s t None = []
answers_left s t (Some c) = after_fault (shape_of_both s t) (answered (left s t c))

abbrev pub iteration_left : Iteration → List (Told Frame)
iteration_left i = answers_left (bytes_of i.table.old) (bytes_of i.table.new) i.cursor

-- the frames among some answers
abbrev pub yielded : List (Told Frame) → List Frame
yielded [] = []
yielded (value f ∷ l) = f ∷ yielded l
yielded (nothing ∷ l) = yielded l
yielded (refused n ∷ l) = yielded l
