-- What the program `window` prints: document 01, the last part of "Cases by number".
use Rattle.std.specs.Prelude.{ℕ, true, List, [], ◌∷◌, ◌++◌, length, drop}
use Rattle.lent.specs.Le.{le_at}
use Rattle.lent.specs.Room.{Written, counted, refused_as, refused_for}
use Rattle.lent.specs.Words.{ascii}
use Rattle.omap.specs.Window.{Piece, window_pieces}
use Rattle.omap.specs.Output.{beside_start, window_spec}
use Rattle.report.specs.Text.{line, hex, numbered, lines, refused_text, input_text}

-- two numbers of 32 bits as hex digits, one space between
abbrev pub pair_line : ℕ → ℕ → List ℕ
pair_line x y = hex 8 x ++ (ascii " " ++ line (hex 8 y))

-- a piece: its start, and what it shows beside it
abbrev pub piece_line : Piece → List ℕ
piece_line p = pair_line p.to (beside_start p)

-- the answer about a window: a line for each piece and their number, or the refusal alone
abbrev pub window_printed : Written → List Piece → List ℕ
window_printed (counted n) l = lines piece_line l ++ numbered (ascii "pieces ") n
window_printed (refused_as n) l = refused_text n
window_printed (refused_for n k) l = refused_text n

-- the window a..b of a present table; there is always room for its pieces
unfoldable pub table_text : ℕ → ℕ → List ℕ → List ℕ
table_text a b table =
    window_printed (window_spec true table a b (length (window_pieces true table a b))) (window_pieces true table a b)

-- the input is a, b, and the table
unfoldable pub window_text : List ℕ → List ℕ
window_text input = input_text 8 input (table_text (le_at 4 input 0) (le_at 4 input 4) (drop 8 input))

-- room for the largest text: 8,191 lines of 18 bytes, and the line that counts them
abbrev pub window_room : ℕ
window_room = 147456

-- pairs of numbers, each on its line; a number without its fellow has none
unfoldable pub pair_lines : List ℕ → List ℕ
pair_lines [] = []
pair_lines (x ∷ []) = []
pair_lines (x ∷ (y ∷ l)) = pair_line x y ++ pair_lines l
