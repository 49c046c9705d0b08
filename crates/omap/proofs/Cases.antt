-- Document 01's starred cases on translation and window, as one statement over a list of them.
-- A crate above may go on: a case of its own beside `Case`, with answers of the same kind.
-- Assumes nothing.
use mathlib.Core.Path.{◌≡◌, refl}
use Prim.Native.Nat.{ℕ, ◌/◌}
use mathlib.Core.Bool.{true}
use mathlib.Core.List.{List, [], ◌∷◌, map}
use lib.ListN.{length}
use Rattle.lent.specs.Words.{or_else, put}
use Rattle.lent.specs.Le.{le_at}
use Rattle.lent.specs.Paper.{Told, value, nothing, refused, and_then}
use Rattle.lent.specs.Table.{listed, shape_fault}
use Rattle.lent.specs.Order.{rising_after, rising, table_fault, last_at}
use Rattle.lent.specs.Room.{Written, counted, refused_as, refused_for, room_for}
use Rattle.omap.specs.Records.{records, moved, single}
use Rattle.omap.specs.Lookup.{lookup_spec}
use Rattle.omap.specs.Window.{next_of, piece_of, pieces, window_pieces}
use Rattle.omap.specs.Output.{beside_start, fits, all_fit, sum_fault, window_fault, flat}
use Rattle.omap.specs.Output.{window_spec, window_out}
use Rattle.omap.specs.Expand.{total}

-- 1000→5000, 1100→0, 1200→4000, 1300→5080
abbrev pub table_t : List ℕ
table_t =
    0x00 ∷ 0x10 ∷ 0 ∷ 0 ∷ 0x00 ∷ 0x50 ∷ 0 ∷ 0
    ∷ 0x00 ∷ 0x11 ∷ 0 ∷ 0 ∷ 0x00 ∷ 0x00 ∷ 0 ∷ 0
    ∷ 0x00 ∷ 0x12 ∷ 0 ∷ 0 ∷ 0x00 ∷ 0x40 ∷ 0 ∷ 0
    ∷ 0x00 ∷ 0x13 ∷ 0 ∷ 0 ∷ 0x80 ∷ 0x50 ∷ 0 ∷ 0 ∷ []

-- 10→FFFFFFF0
abbrev pub table_high : List ℕ
table_high = 0x10 ∷ 0 ∷ 0 ∷ 0 ∷ 0xF0 ∷ 0xFF ∷ 0xFF ∷ 0xFF ∷ []

pub data Case : Type 0 where
  -- the single translation of an address by a table
  lookup : List ℕ → ℕ → Case
  -- the window a..b of a table, with a lent output
  window : List ℕ → ℕ → ℕ → List ℕ → Case
  -- what the same leaves in the output, also where it is refused
  left : List ℕ → ℕ → ℕ → List ℕ → Case
  -- how many addresses of a..b the pieces have
  addresses : List ℕ → ℕ → ℕ → Case

-- a window's answer: the number of its pieces, and what stands in the output
abbrev pub window_answer : Written → List ℕ → Told (List ℕ)
window_answer (counted n) out = value (n ∷ out)
window_answer (refused_as n) out = refused n
window_answer (refused_for n k) out = refused n

-- what a case's operation answers, by its definition: some numbers, none, or a refusal
abbrev pub answer : Case → Told (List ℕ)
answer (lookup s a) = and_then (lookup_spec true s a) (λ (t : ℕ). value (t ∷ []))
answer (window s a b out) = window_answer (window_spec true s a b (length out / 2)) (window_out true s a b out)
answer (left s a b out) = value (window_out true s a b out)
answer (addresses s a b) = value (total (window_pieces true s a b) ∷ [])

abbrev pub asked : List Case
asked =
    lookup table_t 0xFFF
    ∷ lookup table_t 0x1000
    ∷ lookup table_t 0x10FF
    ∷ lookup table_t 0x1100
    ∷ lookup table_t 0x1250
    ∷ window table_t 0x800 0x1400 (0 ∷ 0 ∷ 0 ∷ 0 ∷ 0 ∷ 0 ∷ 7 ∷ [])
    ∷ addresses table_t 0x800 0x1400
    ∷ window table_high 0x10 0x20 (7 ∷ 8 ∷ [])
    ∷ left table_high 0x10 0x20 (7 ∷ 8 ∷ [])
    ∷ []

abbrev pub answers : List (Told (List ℕ))
answers =
    nothing
    ∷ value (0x5000 ∷ [])
    ∷ value (0x50FF ∷ [])
    ∷ nothing
    ∷ value (0x4050 ∷ [])
    ∷ value (3 ∷ 0x5000 ∷ 0x5100 ∷ 0x4000 ∷ 0x4100 ∷ 0x5080 ∷ 0x5180 ∷ 7 ∷ [])
    ∷ value (0x300 ∷ [])
    ∷ refused 4
    ∷ value (7 ∷ 8 ∷ [])
    ∷ []

pub cases : map answer asked ≡ answers
unfolding le_at listed shape_fault rising_after rising table_fault records or_else last_at moved single lookup_spec next_of
    piece_of put pieces beside_start fits all_fit sum_fault window_fault flat room_for window_spec window_out total
cases = refl
