-- Each promise leaves one answer, and one output: any two results that it allows are equal.
-- Assumes nothing.
use mathlib.Core.Path.{◌≡◌, refl, sym, ap, ◌∙◌}
use Prim.Native.Nat.{ℕ, ◌/◌}
use mathlib.Core.Bool.{Bool, cond}
use mathlib.Core.List.{List}
use lib.ListN.{length}
use lib.Dec.{eqb}
use Rattle.std.specs.Prelude.{Result, Ok, Err, Option as Maybe, Some, None}
use Rattle.lent.specs.Paper.{Told, value, nothing, refused, number, sum_number, told, told_value}
use Rattle.lent.specs.Room.{Written, counted, refused_as, refused_for}
use Rattle.lent.specs.declared.refusal.Refusal.{Refusal}
use Rattle.lent.specs.declared.refusal.Refusal.TheVariants.{Length, Count, Order}
use Rattle.lent.specs.declared.refusal.SumRefusal.{SumRefusal}
use Rattle.lent.specs.declared.refusal.SumRefusal.TheVariants.{Table, TooLarge}
use Rattle.lent.proofs.Answers.{refusal, one_answer, maybe, maybe-back}
use Rattle.lent.proofs.Determined.{one_number, one_sum_number, one_told, one_value}
use Rattle.omap.specs.Records.{Entry}
use Rattle.omap.specs.Lookup.{record_spec, lookup_spec}
use Rattle.omap.specs.Quick.{Probed, told_quick, quick_spec}
use Rattle.omap.specs.Output.{count_spec, told_windowed, window_spec, window_out}
use Rattle.omap.specs.Step.{start_spec, Stepped, piece, done, refused_at, told_step, told_answer, step_spec}
use Rattle.omap.specs.declared.lookups.Quick.{Quick}
use Rattle.omap.specs.declared.windows.WindowRefusal.{WindowRefusal}
use Rattle.omap.specs.declared.windows.WindowRefusal.TheVariants as window
use Rattle.omap.specs.declared.cursor.Cursor.{Cursor}
use Rattle.omap.specs.declared.piece.Range.{Range}
use Rattle.omap.specs.declared.cursor.StepRefusal.{StepRefusal}
use Rattle.omap.specs.declared.cursor.StepRefusal.TheVariants as step
use Rattle.omap.specs.declared.cursor.Step.{Step}

pub one-record : (s : List ℕ) (i : ℕ) (r q : Result (Maybe Entry) Refusal) → told number r ≡ record_spec s i
    → told number q ≡ record_spec s i → r ≡ q
one-record s i r q e f = one_told number one_number r q (e ∙ sym f)

-- wherever a promise tells an address
pub one-looked : (t : Told ℕ) (r q : Result (Maybe ℕ) SumRefusal) → told sum_number r ≡ t → told sum_number q ≡ t → r ≡ q
one-looked t r q e f = one_told sum_number one_sum_number r q (e ∙ sym f)

pub one-lookup : (present : Bool) (s : List ℕ) (a : ℕ) (r q : Result (Maybe ℕ) SumRefusal)
    → told sum_number r ≡ lookup_spec present s a → told sum_number q ≡ lookup_spec present s a → r ≡ q
one-lookup present s a = one-looked (lookup_spec present s a)

abbrev quick_back : Told Probed → Result Quick SumRefusal
quick_back (value p) = Ok (record { translation = maybe p.translation; probes = p.probes })
quick_back nothing = Err TooLarge
quick_back (refused n) = Err (cond (eqb n 4) TooLarge (Table (refusal n)))

quick-back : (r : Result Quick SumRefusal) → quick_back (told_quick r) ≡ r
quick-back (Ok q) = ap (λ (t : Maybe ℕ). Ok (record { translation = t; probes = q.probes })) (maybe-back q.translation)
quick-back (Err (Table Length)) = refl
quick-back (Err (Table Count)) = refl
quick-back (Err (Table Order)) = refl
quick-back (Err TooLarge) = refl

pub one-quick : (present : Bool) (s : List ℕ) (a : ℕ) (r q : Result Quick SumRefusal)
    → told_quick r ≡ quick_spec present s a → told_quick q ≡ quick_spec present s a → r ≡ q
one-quick present s a = one_answer told_quick quick_back quick-back (quick_spec present s a)

pub one-count : (present : Bool) (s : List ℕ) (a b : ℕ) (r q : Result ℕ SumRefusal)
    → told_value sum_number r ≡ count_spec present s a b → told_value sum_number q ≡ count_spec present s a b → r ≡ q
one-count present s a b r q e f = one_value sum_number one_sum_number r q (e ∙ sym f)

abbrev windowed_back : Written → Result ℕ WindowRefusal
windowed_back (counted n) = Ok n
windowed_back (refused_as n) = Err (cond (eqb n 4) window.TooLarge (window.Table (refusal n)))
windowed_back (refused_for n k) = Err (window.Short k)

windowed-back : (r : Result ℕ WindowRefusal) → windowed_back (told_windowed r) ≡ r
windowed-back (Ok n) = refl
windowed-back (Err (window.Table Length)) = refl
windowed-back (Err (window.Table Count)) = refl
windowed-back (Err (window.Table Order)) = refl
windowed-back (Err window.TooLarge) = refl
windowed-back (Err (window.Short n)) = refl

-- what is answered, and what is left in the output
pub one-window : (present : Bool) (s : List ℕ) (a b : ℕ) (out : List ℕ) (r q : Result ℕ WindowRefusal) (after next : List ℕ)
    → (told_windowed r ≡ window_spec present s a b (length out / 2)) × (after ≡ window_out present s a b out)
    → (told_windowed q ≡ window_spec present s a b (length out / 2)) × (next ≡ window_out present s a b out)
    → (r ≡ q) × (after ≡ next)
one-window present s a b out r q after next p o = (
  one_answer told_windowed windowed_back windowed-back (window_spec present s a b (length out / 2)) r q p.0 o.0,
  p.1 ∙ sym o.1,
)

pub one-start : (present : Bool) (s : List ℕ) (a b : ℕ) (r q : Result Cursor Refusal)
    → told_value number r ≡ start_spec present s a b → told_value number q ≡ start_spec present s a b → r ≡ q
one-start present s a b r q e f = one_value number one_number r q (e ∙ sym f)

abbrev stepped_back : Stepped → Step
stepped_back (piece start end c) = record { answer = Ok (Some (record { start = start; end = end })); cursor = c }
stepped_back (done c) = record { answer = Ok None; cursor = c }
stepped_back (refused_at n c) = record {
  answer = Err (cond (eqb n 4) step.TooLarge (cond (eqb n 6) step.Early (step.Table (refusal n))));
  cursor = c;
}

answered-back : (a : Result (Maybe Range) StepRefusal) (c : Cursor)
    → stepped_back (told_answer a c) ≡ record { answer = a; cursor = c }
answered-back (Ok (Some r)) c = refl
answered-back (Ok None) c = refl
answered-back (Err (step.Table Length)) c = refl
answered-back (Err (step.Table Count)) c = refl
answered-back (Err (step.Table Order)) c = refl
answered-back (Err step.Early) c = refl
answered-back (Err step.TooLarge) c = refl

pub one-step : (present : Bool) (s : List ℕ) (c : Cursor) (r q : Step) → told_step r ≡ step_spec present s c
    → told_step q ≡ step_spec present s c → r ≡ q
one-step present s c = one_answer told_step stepped_back (λ r. answered-back r.answer r.cursor) (step_spec present s c)
