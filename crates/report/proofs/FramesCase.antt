-- The example of the program `frames`, whole: an old frame of each type, one of them passed over for an equal new one,
-- and two new.
-- Assumes nothing.
use mathlib.Core.Path.{◌≡◌, refl}
use Prim.Native.Nat.{ℕ}
use mathlib.Core.List.{List, [], ◌∷◌, ◌++◌}
use Rattle.lent.specs.Le.{le_at}
use Rattle.lent.specs.Table.{listed, shape_fault}
use Rattle.lent.specs.Words.{ascii}
use Rattle.framedata.specs.Attributes.{attributes}
use Rattle.framedata.specs.Frame.{from_old, from_new}
use Rattle.framedata.specs.Step.{lesser}
use Rattle.framedata.specs.Merge.{merge, all_fit}
use Rattle.report.specs.Text.{line, glyph, digits, places_in, lines}
use Rattle.report.specs.Frames.{type_name, frame_line, heading, frames_or_refusal, frames_text}

-- 80 bytes of old frames at 100, 180, 200, 300, 400 (hex); new ones at 200 and ABCD
abbrev pub example : List ℕ
example =
    (80 ∷ 0 ∷ 0 ∷ 0 ∷ [])
    ++ (0 ∷ 1 ∷ 0 ∷ 0 ∷ 64 ∷ 0 ∷ 0 ∷ 0 ∷ 2 ∷ 0 ∷ 0 ∷ 0 ∷ 1 ∷ 0 ∷ 5 ∷ 195 ∷ [])
    ++ (128 ∷ 1 ∷ 0 ∷ 0 ∷ 32 ∷ 0 ∷ 0 ∷ 0 ∷ 0 ∷ 0 ∷ 0 ∷ 0 ∷ 0 ∷ 0 ∷ 3 ∷ 4 ∷ [])
    ++ (0 ∷ 2 ∷ 0 ∷ 0 ∷ 153 ∷ 0 ∷ 0 ∷ 0 ∷ 1 ∷ 0 ∷ 0 ∷ 0 ∷ 1 ∷ 0 ∷ 255 ∷ 255 ∷ [])
    ++ (0 ∷ 3 ∷ 0 ∷ 0 ∷ 16 ∷ 0 ∷ 0 ∷ 0 ∷ 16 ∷ 0 ∷ 0 ∷ 0 ∷ 2 ∷ 0 ∷ 0 ∷ 64 ∷ [])
    ++ (0 ∷ 4 ∷ 0 ∷ 0 ∷ 255 ∷ 3 ∷ 0 ∷ 0 ∷ 255 ∷ 255 ∷ 255 ∷ 63 ∷ 255 ∷ 255 ∷ 15 ∷ 138 ∷ [])
    ++ (0 ∷ 2 ∷ 0 ∷ 0 ∷ 16 ∷ 0 ∷ 0 ∷ 0 ∷ 0 ∷ 0 ∷ 0 ∷ 0 ∷ 0 ∷ 0 ∷ 0 ∷ 0 ∷ [])
    ++ (64 ∷ 0 ∷ 0 ∷ 0 ∷ 18 ∷ 0 ∷ 0 ∷ 0 ∷ 0 ∷ 0 ∷ 0 ∷ 0 ∷ 7 ∷ 0 ∷ 0 ∷ 0 ∷ [])
    ++ (205 ∷ 171 ∷ 0 ∷ 0 ∷ 120 ∷ 86 ∷ 52 ∷ 18 ∷ 9 ∷ 0 ∷ 0 ∷ 0 ∷ 255 ∷ 255 ∷ 255 ∷ 255 ∷ [])
    ++ (0 ∷ 0 ∷ 0 ∷ 0 ∷ 239 ∷ 190 ∷ 173 ∷ 222 ∷ 31 ∷ 0 ∷ 2 ∷ 1 ∷ 4 ∷ 0 ∷ 0 ∷ 0 ∷ [])

-- the lines under the heading, as crates/frames/stdout has them
abbrev pub printed : List ℕ
printed =
    line (ascii "00000100 00000040 00000008 00000004 0005   000C  -------- -------- std   s---")
    ++ line (ascii "00000180 00000020 00000000 00000000 0003   0010  -------- -------- fpo   ---b")
    ++ line (ascii "00000200 00000010 00000000 00000000 0000   0000  00000040 00000012 fdata scf-")
    ++ line (ascii "00000300 00000010 00000040 00000008 0000   0000  -------- -------- trap  ----")
    ++ line (ascii "00000400 000003FF FFFFFFFC 0003FFFC 000F   0008  -------- -------- tss   s---")
    ++ line (ascii "0000ABCD 12345678 00000009 FFFFFFFF 001F   0102  00000000 DEADBEEF fdata --f-")
    ++ line (ascii "frames 6")

pub prints : frames_text example ≡ heading ++ printed
unfolding le_at listed shape_fault attributes from_old from_new lesser merge all_fit glyph digits places_in lines type_name
    frame_line frames_or_refusal frames_text
prints = refl
