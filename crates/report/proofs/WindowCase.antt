-- Document 01's example: T with 0800..1400 (hex), whole.
-- Assumes nothing.
use mathlib.Core.Path.{◌≡◌, refl}
use Prim.Native.Nat.{ℕ}
use mathlib.Core.List.{List, [], ◌∷◌, ◌++◌}
use Rattle.lent.specs.Words.{put, ascii}
use Rattle.lent.specs.Le.{le_at}
use Rattle.lent.specs.Table.{listed, shape_fault}
use Rattle.lent.specs.Order.{rising_after, rising, table_fault}
use Rattle.lent.specs.Room.{room_for}
use Rattle.omap.specs.Records.{records}
use Rattle.omap.specs.Window.{next_of, piece_of, pieces}
use Rattle.omap.specs.Output.{beside_start, fits, all_fit, sum_fault, window_fault, window_spec}
use Rattle.report.specs.Text.{line, glyph, digits, places_in, lines}
use Rattle.report.specs.Window.{table_text, window_text}

-- 1000→5000, 1100→0, 1200→4000, 1300→5080
abbrev pub table : List ℕ
table =
    (0 ∷ 16 ∷ 0 ∷ 0 ∷ 0 ∷ 80 ∷ 0 ∷ 0 ∷ [])
    ++ (0 ∷ 17 ∷ 0 ∷ 0 ∷ 0 ∷ 0 ∷ 0 ∷ 0 ∷ [])
    ++ (0 ∷ 18 ∷ 0 ∷ 0 ∷ 0 ∷ 64 ∷ 0 ∷ 0 ∷ [])
    ++ (0 ∷ 19 ∷ 0 ∷ 0 ∷ 128 ∷ 80 ∷ 0 ∷ 0 ∷ [])

-- a, b, T
abbrev pub example : List ℕ
example = (0 ∷ 8 ∷ 0 ∷ 0 ∷ 0 ∷ 20 ∷ 0 ∷ 0 ∷ []) ++ table

abbrev pub printed : List ℕ
printed =
    line (ascii "00005000 00005100")
    ++ line (ascii "00004000 00004100")
    ++ line (ascii "00005080 00005180")
    ++ line (ascii "pieces 3")

pub prints : window_text example ≡ printed
unfolding le_at listed shape_fault rising_after rising table_fault records next_of piece_of put pieces beside_start fits all_fit
    sum_fault window_fault
    room_for window_spec glyph digits places_in lines table_text window_text
prints = refl
