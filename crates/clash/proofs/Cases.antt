-- All of document 01's starred cases, as one statement over a list of them: those of crate omap on translation and
-- window, and those on the clash check and the way back, in the table T.
-- Assumes nothing.
use mathlib.Core.Path.{◌≡◌, refl}
use Prim.Native.Nat.{ℕ}
use native.Mathlib.Omega.{arith}
use mathlib.Core.List.{List, [], ◌∷◌, ◌++◌, map}
use mathlib.Core.Option.{Option, none, some}
use Rattle.lent.specs.Words.{or_else, put}
use Rattle.lent.specs.Le.{le_at}
use Rattle.lent.specs.Paper.{Told, value, and_then}
use Rattle.lent.specs.Table.{listed, shape_fault}
use Rattle.lent.specs.Order.{rising_after, rising, table_fault, last_at}
use Rattle.lent.specs.Room.{room_for}
use Rattle.omap.specs.Records.{records, moved, single}
use Rattle.omap.specs.Lookup.{lookup_spec}
use Rattle.omap.specs.Window.{next_of, piece_of, pieces}
use Rattle.omap.specs.Output.{beside_start, fits, all_fit, sum_fault, window_fault, flat, window_spec, window_out}
use Rattle.omap.specs.Expand.{total}
use Rattle.omap.proofs.Cases as omap
use Rattle.clash.specs.Clash.{Pair, Sources, one, two, paired_or, least_two, clash_spec, back_spec}
use Rattle.clash.specs.Shared.{source_in, sources_in, first_shared, clash_of}
use Rattle.clash.proofs.Answers.{clash-given, back-given}

pub data Case : Type 0 where
  -- a case on translation or window
  ground : omap.Case → Case
  -- the clash check in a..b of a table
  clash : List ℕ → ℕ → ℕ → Case
  -- going back in a..b of a table from t
  back : List ℕ → ℕ → ℕ → ℕ → Case

-- "single" has no numbers
abbrev pub pair_numbers : Option Pair → List ℕ
pair_numbers none = []
pair_numbers (some p) = p.first ∷ (p.second ∷ [])

abbrev pub source_numbers : Sources → List ℕ
source_numbers (one x) = x ∷ []
source_numbers (two x y) = x ∷ (y ∷ [])

-- what a case's operation answers, by its definition: some numbers, none, or a refusal
abbrev pub answer : Case → Told (List ℕ)
answer (ground c) = omap.answer c
answer (clash s a b) = and_then (clash_spec s a b) (λ (p : Option Pair). value (pair_numbers p))
answer (back s a b t) = and_then (back_spec s a b t) (λ (x : Sources). value (source_numbers x))

abbrev pub asked : List Case
asked =
    map ground omap.asked
    ++ (clash omap.table_t 0x800 0x1400
    ∷ clash omap.table_t 0x1000 0x1300
    ∷ back omap.table_t 0x800 0x1400 0x50A0
    ∷ back omap.table_t 0x800 0x1400 0x5100
    ∷ [])

abbrev pub answers : List (Told (List ℕ))
answers =
    omap.answers
    ++ (value (0x1080 ∷ 0x1300 ∷ [])
    ∷ value []
    ∷ value (0x10A0 ∷ 0x1320 ∷ [])
    ∷ value (0x1380 ∷ [])
    ∷ [])

pub cases : map answer asked ≡ answers
unfolding le_at listed shape_fault rising_after rising table_fault records or_else last_at moved single lookup_spec next_of
    piece_of put pieces beside_start fits all_fit sum_fault window_fault flat room_for window_spec window_out total paired_or
    least_two source_in sources_in first_shared clash_of
cases =
    rw (
      ← (clash-given omap.table_t 0x800 0x1400 refl refl (omega arith)),
      ← (clash-given omap.table_t 0x1000 0x1300 refl refl (omega arith)),
      ← (back-given omap.table_t 0x800 0x1400 refl refl (omega arith) 0x50A0),
      ← (back-given omap.table_t 0x800 0x1400 refl refl (omega arith) 0x5100),
    )
