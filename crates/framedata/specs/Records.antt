-- The records of the two frame tables. Each number is little-endian, at its offset in the record.
use Rattle.std.specs.Prelude.{ℕ, ◌+◌, ◌*◌, ◌/◌, cond, List, length, ltb}
use Rattle.std.proofs.Math.Option.{Option, none, some}
use Rattle.lent.specs.Le.{le_at}
use Rattle.lent.specs.Table.{listed}

-- Where a record of either kind stands, and the code that it is about. Both kinds begin with it:
--    offset  bytes  field
--     0      4      code_start
--     4      4      code_size
pub record Span : Type 0 where
  pub place : ℕ
  pub code_start : ℕ
  pub code_size : ℕ

-- the span of the record at place i, where a record has w bytes
abbrev pub span_at : ℕ → List ℕ → ℕ → Span
span_at w s i = record { place = i; code_start = le_at 4 s (w * i); code_size = le_at 4 s (w * i + 4) }

-- the spans of all whole records, in order of place
abbrev pub spans : ℕ → List ℕ → List Span
spans w s = listed (span_at w s) 0 (length s / w)

-- An old record, `struct _FPO_DATA`, has 16 bytes: its span, and
--    offset  bytes  field
--     8      4      locals_size, in steps of 4 bytes
--    12      2      params_size, in steps of 4 bytes
--    14      2      attributes
pub record OldFrame : Type 0 where
  pub span : Span
  pub locals_size : ℕ
  pub params_size : ℕ
  pub attributes : ℕ

-- the old record at place i, as its bytes stand
abbrev pub old_record : List ℕ → ℕ → OldFrame
old_record s i =
    record {
      span = span_at 16 s i;
      locals_size = le_at 4 s (16 * i + 8);
      params_size = le_at 2 s (16 * i + 12);
      attributes = le_at 2 s (16 * i + 14);
    }

-- A new record, `struct tag_fRAMEDATA`, has 32 bytes: its span, and
--    offset  bytes  field
--     8      4      locals_size
--    12      4      params_size
--    16      4      max_stack_size
--    20      4      frame_func, where the program string stands
--    24      2      prolog_size
--    26      2      saved_regs_size
--    28      4      flags
pub record NewFrame : Type 0 where
  pub span : Span
  pub locals_size : ℕ
  pub params_size : ℕ
  pub max_stack_size : ℕ
  pub frame_func : ℕ
  pub prolog_size : ℕ
  pub saved_regs_size : ℕ
  pub flags : ℕ

-- the new record at place i, as its bytes stand
abbrev pub new_record : List ℕ → ℕ → NewFrame
new_record s i =
    record {
      span = span_at 32 s i;
      locals_size = le_at 4 s (32 * i + 8);
      params_size = le_at 4 s (32 * i + 12);
      max_stack_size = le_at 4 s (32 * i + 16);
      frame_func = le_at 4 s (32 * i + 20);
      prolog_size = le_at 2 s (32 * i + 24);
      saved_regs_size = le_at 2 s (32 * i + 26);
      flags = le_at 4 s (32 * i + 28);
    }

-- what f gives at place i of a table of n records: none at or past its end
abbrev pub before : {A : Type 0} → ℕ → (ℕ → A) → ℕ → Option A
before n f i = cond (ltb i n) (some (f i)) none

abbrev pub old_at : List ℕ → ℕ → Option OldFrame
old_at s i = before (length s / 16) (old_record s) i

abbrev pub new_at : List ℕ → ℕ → Option NewFrame
new_at s i = before (length s / 32) (new_record s) i

-- all records of a table, in order of place
abbrev pub olds : List ℕ → List OldFrame
olds s = listed (old_record s) 0 (length s / 16)

abbrev pub news : List ℕ → List NewFrame
news s = listed (new_record s) 0 (length s / 32)
