-- The drain's loop: a cursor that yields the numbers to write, and one piece taken from it.
-- Assumes nothing.
use mathlib.Core.Path.{◌≡◌, refl, sym, ap, ◌∙◌}
use Prim.Native.Nat.{ℕ, zero, suc, ◌+◌, ◌*◌, ◌/◌, ◌≤◌, ◌<◌}
use native.Mathlib.Omega.{arith}
use mathlib.Core.Bool.{Bool, true, false}
use mathlib.Core.List.{List, [], ◌∷◌}
use mathlib.Core.Option.{Option, none, some}
use lib.ListN.{length, set}
use Rattle.std.specs.Prelude.{Result, Ok, Err, Option as Maybe, Some, None, IsOk, IsSome, is_some}
use Rattle.lent.specs.Paper.{Told, value, nothing, refused, number, told_value, unless, first_fault, and_then}
use Rattle.lent.specs.declared.refusal.Refusal.{Refusal}
use Rattle.lent.specs.Order.{omap_fault}
use Rattle.lent.specs.Room.{counted, written_over}
use Rattle.omap.specs.Records.{records}
use Rattle.omap.specs.Window.{Piece, window_pieces}
use Rattle.omap.specs.Output.{all_fit, flat, sum_fault, window_fault, window_spec, window_out}
use Rattle.omap.specs.Step.{Stepped, told_answer, told_step, start_on, start_spec, step_spec}
use Rattle.omap.specs.Yields.{yielded, yields}
use Rattle.omap.specs.declared.cursor.Cursor.{Cursor}
use Rattle.omap.specs.declared.piece.Range.{Range}
use Rattle.omap.specs.declared.cursor.Step.{Step}
use Rattle.omap.specs.declared.cursor.StepRefusal.{StepRefusal}
use Rattle.omap.proofs.Outputs.{answer-pieces}
use Rattle.omap.proofs.Outputs.{length-flat}
use Rattle.omap.proofs.Stepping.{stepping-fits}
use Rattle.std.specs.Borrow.{Bor}
use Rattle.lent.specs.Table.{bytes_of}
use Rattle.ranges.specs.declared.reader.RangeReader.{RangeReader}
use Rattle.ranges.proofs.Writing.{Writing, writing-first, writing-two, writing-last, some_left, writing-on}

-- stepped to its end, the cursor yields these numbers
pub record YieldsAll (present : Bool) (s : List ℕ) (c : Cursor) (l : List ℕ) : Type 0 where
  pub steps : ℕ
  pub gives : yields present s steps c ≡ value l

-- a started cursor yields the pieces of a window that all fit
pub yields-pieces : (present : Bool) (s : List ℕ) (a b : ℕ) (c : Cursor) → b ≤ 4294967295
    → value c ≡ start_spec present s a b → all_fit (window_pieces present s a b) ≡ true
    → YieldsAll present s c (flat (window_pieces present s a b))
yields-pieces present s a b c small e f =
    let n : ℕ = suc (length (window_pieces present s a b)) in
    record { steps = n; gives = stepping-fits present s a b c (sym e) small f n (omega arith) }

-- a window that is not refused is not refused at its start
no-fault : (f g : Option ℕ) → none ≡ first_fault f g → none ≡ f
no-fault none g e = refl
no-fault (some n) g e = cc

not-refused : (f : Option ℕ) (c : Cursor) (n : ℕ) → none ≡ f → refused n ≡ unless f (value c) → ⊥
not-refused none c n e q = cc
not-refused (some m) c n e q = cc

starts : (present : Bool) (s : List ℕ) (a b from to n : ℕ) → none ≡ window_fault present s a b
    → refused n ≡ start_spec present s from to → ⊥
unfolding window_fault start_spec
starts true s a b from to n e q =
    let f : none ≡ omap_fault s = no-fault (omap_fault s) (sum_fault (window_pieces true s a b)) e in
    not-refused (omap_fault s) (start_on (records s) from to) n f q
starts false s a b from to n e q = cc

pub started : (present : Bool) (s : List ℕ) (a b from to : ℕ) (r : Result Cursor Refusal)
    → none ≡ window_fault present s a b → told_value number r ≡ start_spec present s from to → IsOk r
started present s a b from to (Ok c) e q = refl
started present s a b from to (Err why) e q = absurd (starts present s a b from to (number why) e q)

-- one that has room leaves its pieces as pairs
pub drained-out : (present : Bool) (s : List ℕ) (a b : ℕ) (out : List ℕ) (l : List Piece) (n : ℕ)
    → window_pieces present s a b ≡ l → none ≡ window_fault present s a b → n ≡ length l → n ≤ length out / 2
    → written_over (flat l) out ≡ window_out present s a b out
unfolding window_out
drained-out present s a b out l n e f m h =
    let w : counted n ≡ window_spec present s a b (length out / 2)
    = answer-pieces present s a b (length out / 2) n f (m ∙ ap length (sym e)) h in
    rw (← w, e)

-- ---- a step, by what was left to yield: the numbers of a piece are the first two, and its cursor yields the others
pub record TakenFrom (present : Bool) (s : List ℕ) (l : List ℕ) (t : Step) : Type 0 where
  pub range : Range
  pub is : t.answer ≡ Ok (Some range)
  pub on : List ℕ
  pub split : l ≡ range.start ∷ (range.end ∷ on)
  pub yields : YieldsAll present s t.cursor on

module _ {present : Bool} {s : List ℕ} where
  piece-taken : (n : ℕ) (o : Told (List ℕ)) (r : Range) (c : Cursor) (l : List ℕ) → yields present s n c ≡ o
      → and_then o (λ (k : List ℕ). value (r.start ∷ (r.end ∷ k))) ≡ value l
      → TakenFrom present s l (record { answer = Ok (Some r); cursor = c })
  piece-taken n (value k) r c l e q =
      record { range = r; is = refl; on = k; split = cc; yields = record { steps = n; gives = e } }
  piece-taken n nothing r c l e q = let z : ◌≡◌ {A = ℕ} 0 1 = cc in absurd (omega arith)
  piece-taken n (refused m) r c l e q = let z : ◌≡◌ {A = ℕ} 0 1 = cc in absurd (omega arith)

  by-step : (n : ℕ) (l : List ℕ) (a : Result (Maybe Range) StepRefusal) (c : Cursor) → 0 < length l
      → yielded (told_answer a c) (yields present s n) ≡ value l
      → TakenFrom present s l (record { answer = a; cursor = c })
  by-step n l (Ok (Some r)) c h q = piece-taken n (yields present s n c) r c l refl q
  by-step n l (Ok None) c h q = let z : l ≡ [] = cc in absurd (omega (arith, ap length z))
  by-step n l (Err why) c h q = let z : ◌≡◌ {A = ℕ} 0 1 = cc in absurd (omega arith)

  by-yield : (n : ℕ) (c : Cursor) (l : List ℕ) (t : Step) → 0 < length l → told_step t ≡ step_spec present s c
      → yields present s n c ≡ value l → TakenFrom present s l t
  unfolding yields
  by-yield zero c l t h e q = let z : ◌≡◌ {A = ℕ} 0 1 = cc in absurd (omega arith)
  by-yield (suc n) c l t h e q =
      by-step n l t.answer t.cursor h (ap (λ (x : Stepped). yielded x (yields present s n)) e ∙ q)

  pub taken-from : {c : Cursor} {l : List ℕ} (t : Step) → YieldsAll present s c l → 0 < length l
      → told_step t ≡ step_spec present s c → TakenFrom present s l t
  taken-from {c} {l} t g h e = by-yield g.steps c l t h e g.gives

-- ---- where the loop stands: of n pieces so many are written, and the reader's cursor yields the others
pub record Drains (t : Maybe (Bor (List ℕ))) (a b n : ℕ) (out₀ out : List ℕ) (entry : ℕ) (r : RangeReader) : Type 0 where
  pub same : r.table ≡ t
  pub written : Writing (YieldsAll (is_some t) (bytes_of t)) out₀ (window_out (is_some t) (bytes_of t) a b out₀) (2 * n)
      out (2 * entry) r.cursor

pub drains-first : (t : Maybe (Bor (List ℕ))) (a b n : ℕ) (out : List ℕ) (r : RangeReader) → b ≤ 4294967295
    → none ≡ window_fault (is_some t) (bytes_of t) a b → all_fit (window_pieces (is_some t) (bytes_of t) a b) ≡ true
    → n ≡ length (window_pieces (is_some t) (bytes_of t) a b) → n ≤ length out / 2 → r.table ≡ t
    → value r.cursor ≡ start_spec (is_some t) (bytes_of t) a b → Drains t a b n out out 0 r
drains-first t a b n out r small good fit number room is begins =
    let l : List Piece = window_pieces (is_some t) (bytes_of t) a b in
    record {
      same = is;
      written = writing-first r.cursor (flat l)
          (λ h. yields-pieces (is_some t) (bytes_of t) a b r.cursor small begins fit)
          (omega (arith, length-flat l)) (omega arith)
          (drained-out (is_some t) (bytes_of t) a b out l n refl good number room);
    }

module _ {t : Maybe (Bor (List ℕ))} {a b n : ℕ} {out₀ out : List ℕ} {entry : ℕ} {r : RangeReader}
    (w : Drains t a b n out₀ out entry r) where
  pub drains-last : n ≤ entry → out ≡ window_out (is_some t) (bytes_of t) a b out₀
  drains-last h = writing-last w.written (omega arith)

  module _ (h : entry < n) (step : Step) (e : told_step step ≡ step_spec (is_some r.table) (bytes_of r.table) r.cursor) where
    pub next-taken : TakenFrom (is_some t) (bytes_of t) w.written.left step
    next-taken =
        let more : 2 * entry < 2 * n = omega arith in
        taken-from step (writing-on w.written more) (some_left w.written more) (rw w.same at e)

    -- the answer of the step, taken apart as the code does
    pub is-ok : IsOk step.answer
    is-ok = rw next-taken.is refl

    module _ (found : Maybe Range) (ok : step.answer ≡ Ok found) where
      found-is : found ≡ Some next-taken.range
      found-is = let k : Ok found ≡ Ok (Some next-taken.range) = sym ok ∙ next-taken.is in cc

      pub is-there : IsSome found
      is-there = rw found-is refl

      pub drains-more : (x : Range) → found ≡ Some x → (next : RangeReader) → next.table ≡ r.table → next.cursor ≡ step.cursor
          → Drains t a b n out₀ (set (set out (2 * entry) x.start) (2 * entry + 1) x.end) (entry + 1) next
      drains-more x is next table cursor =
          let k : x ≡ next-taken.range = let q : Some x ≡ Some next-taken.range = sym is ∙ found-is in cc in
          let two : 2 * (entry + 1) ≡ 2 * entry + 2 = omega arith in
          record {
            same = table ∙ w.same;
            written = rw (k, two, cursor) (writing-two w.written step.cursor (λ h. next-taken.yields) next-taken.range.start
                next-taken.range.end next-taken.split);
          }
