-- What the program `frames` prints: a line for each frame that an iteration yields, in columns under a heading.
use Rattle.std.specs.Prelude.{ℕ, ◌+◌, ◌-◌, Bool, cond, List, [], ◌∷◌, ◌++◌, map, length, take, drop, replicate, leb, eqb}
use Prim.Native.Char.{code}
use Rattle.std.proofs.Math.Option.{Option, none, some}
use Rattle.lent.specs.Le.{le_at}
use Rattle.lent.specs.Paper.{Told, value, nothing, refused, unless}
use Rattle.lent.specs.Words.{ascii}
use Rattle.framedata.specs.Records.{olds, news}
use Rattle.framedata.specs.Frame.{Frame}
use Rattle.framedata.specs.Tables.{shape_of_both}
use Rattle.framedata.specs.Step.{frame}
use Rattle.framedata.specs.Merge.{merge, all_fit}
use Rattle.report.specs.Text.{line, hex, numbered, lines, refused_text, input_text}

-- a column, with spaces up to its width
abbrev pub padded : ℕ → List ℕ → List ℕ
padded w column = column ++ replicate (w - length column) (code " ")

-- columns, each with a space after it
abbrev pub columns : List (List ℕ) → List ℕ
columns [] = []
columns (column ∷ l) = column ++ (ascii " " ++ columns l)

-- the name that the Rust displays for a frame type
unfoldable pub type_name : ℕ → List ℕ
type_name ty =
    cond (eqb ty 0) (ascii "fpo")
    (cond (eqb ty 1) (ascii "trap")
    (cond (eqb ty 2) (ascii "tss")
    (cond (eqb ty 3) (ascii "std") (cond (eqb ty 4) (ascii "fdata") (ascii "unknown")))))

-- a number that may be missing: eight hex digits, or eight `-`
abbrev pub optional : Option ℕ → List ℕ
optional none = ascii "--------"
optional (some n) = hex 8 n

-- a flag's letter, or `-` where it is not set
abbrev pub flag : Bool → ℕ → ℕ
flag on letter = cond on letter (code "-")

-- s: SEH; c: C++ EH; f: function start; b: base pointer
abbrev pub flags : Frame → List ℕ
flags f =
    flag f.has_structured_eh (code "s")
    ∷ (flag f.has_cpp_eh (code "c")
    ∷ (flag f.is_function_start (code "f") ∷ (flag f.uses_base_pointer (code "b") ∷ [])))

-- the columns of the sizes: start, size, locals, params, prolog, saved
abbrev pub size_columns : Frame → List (List ℕ)
size_columns f =
    hex 8 f.code_start
    ∷ (hex 8 f.code_size
    ∷ (hex 8 f.locals_size
    ∷ (hex 8 f.params_size ∷ (padded 6 (hex 4 f.prolog_size) ∷ (padded 5 (hex 4 f.saved_regs_size) ∷ [])))))

-- the columns of what a frame may have: stack, program; and its type
abbrev pub kind_columns : Frame → List (List ℕ)
kind_columns f = optional f.max_stack_size ∷ (optional f.program ∷ (padded 5 (type_name f.ty) ∷ []))

-- a frame on its line
unfoldable pub frame_line : Frame → List ℕ
frame_line f = columns (size_columns f) ++ (columns (kind_columns f) ++ line (flags f))

abbrev pub heading : List ℕ
heading = line (ascii "start    size     locals   params   prolog saved stack    program  type  flags")

-- the frames of both tables, in the order in which an iteration yields them
abbrev pub frames : List ℕ → List ℕ → List Frame
frames old new = map frame (merge (olds old) (news new))

-- 1, 2 of the old table, 1, 2 of the new one, 4 where a frame that is yielded is too large; else all frames
unfoldable pub frames_or_refusal : List ℕ → List ℕ → Told (List Frame)
frames_or_refusal old new =
    unless (shape_of_both old new) (cond (all_fit (merge (olds old) (news new))) (value (frames old new)) (refused 4))

-- the heading, the frames and their number; or the refusal alone
abbrev pub frames_printed : Told (List Frame) → List ℕ
frames_printed (value l) = heading ++ (lines frame_line l ++ numbered (ascii "frames ") (length l))
frames_printed nothing = []
frames_printed (refused n) = refused_text n

-- The input is the old table's length in bytes, the old table, and the new one. An old length greater than what
-- follows: refused 1.
unfoldable pub frames_text : List ℕ → List ℕ
frames_text input =
    input_text 4 input
    (cond (leb (le_at 4 input 0) (length input - 4))
    (frames_printed (frames_or_refusal (take (le_at 4 input 0) (drop 4 input)) (drop (4 + le_at 4 input 0) input)))
    (refused_text 1))

-- room for the largest text: 4,097 lines of at most 80 bytes
abbrev pub frames_room : ℕ
frames_room = 327760

-- how many frames, or the refusal
abbrev pub how_many : Told (List Frame) → Told ℕ
how_many (value l) = value (length l)
how_many nothing = nothing
how_many (refused n) = refused n
