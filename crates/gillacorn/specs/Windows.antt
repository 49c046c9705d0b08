-- What the face shows of windows and cursors.
use Rattle.lent.specs.Paper.{Told, value, nothing, refused}
use Rattle.lent.specs.Room.{Written, counted, refused_as, refused_for}
use Rattle.omap.specs.Step.{Stepped, piece, done, refused_at}
use Rattle.omap.specs.declared.cursor.Cursor.{Cursor}
use Rattle.gillacorn.specs.declared.windows.PiecesAnswer.{PiecesAnswer}
use Rattle.gillacorn.specs.declared.windows.CursorAnswer.{CursorAnswer}
use Rattle.gillacorn.specs.declared.windows.StepAnswer.{StepAnswer}

-- the number of pieces; with a refusal that tells it, the number needed
abbrev pub pieces_answer : Written → PiecesAnswer
pieces_answer (counted n) = record { code = 0; pieces = n }
pieces_answer (refused_as k) = record { code = k; pieces = 0 }
pieces_answer (refused_for k n) = record { code = k; pieces = n }

-- a cursor of zeros, where there is none to give
abbrev pub no_cursor : Cursor
no_cursor = record { address = 0; end = 0; source = 0; target = 0; place = 0 }

abbrev pub cursor_answer : Told Cursor → CursorAnswer
cursor_answer (value c) = record { code = 0; cursor = c }
cursor_answer nothing = record { code = 255; cursor = no_cursor }
cursor_answer (refused n) = record { code = n; cursor = no_cursor }

-- a piece and the next cursor; none and the cursor left behind; a refusal and the cursor as it was
abbrev pub step_answer : Stepped → StepAnswer
step_answer (piece s e c) = record { code = 0; start = s; end = e; cursor = c }
step_answer (done c) = record { code = 255; start = 0; end = 0; cursor = c }
step_answer (refused_at n c) = record { code = n; start = 0; end = 0; cursor = c }
