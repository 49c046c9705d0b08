-- Each promise leaves one answer: any two results that it allows are equal. An answer can be read back from the paper's
-- own terms.
-- Assumes nothing.
use mathlib.Core.Path.{◌≡◌, refl, ap}
use Prim.Native.Nat.{ℕ}
use mathlib.Core.Bool.{cond}
use mathlib.Core.List.{List}
use mathlib.Core.Option.{Option}
use lib.Dec.{eqb}
use Rattle.std.specs.Prelude.{Result, Ok, Err, Option as Maybe, Some, None}
use Rattle.lent.specs.Paper.{Told, value, nothing, refused}
use Rattle.lent.specs.declared.refusal.Refusal.TheVariants.{Length, Count, Order}
use Rattle.lent.specs.declared.refusal.SumRefusal.{SumRefusal}
use Rattle.lent.specs.declared.refusal.SumRefusal.TheVariants.{Table, TooLarge}
use Rattle.lent.proofs.Answers.{refusal, one_answer, maybe, maybe-back}
use Rattle.clash.specs.Clash.{Pair, Sources, one, two, told_clashed, clash_spec, told_back, back_spec}
use Rattle.clash.specs.declared.sources.Sources as kept
use Rattle.clash.specs.declared.sources.Sources.TheVariants as sources

abbrev clashed_back : Told (Option Pair) → Result (Maybe Pair) SumRefusal
clashed_back nothing = Ok None
clashed_back (value p) = Ok (maybe p)
clashed_back (refused n) = Err (cond (eqb n 4) TooLarge (Table (refusal n)))

clashed-back : (r : Result (Maybe Pair) SumRefusal) → clashed_back (told_clashed r) ≡ r
clashed-back (Ok p) = ap Ok (maybe-back p)
clashed-back (Err (Table Length)) = refl
clashed-back (Err (Table Count)) = refl
clashed-back (Err (Table Order)) = refl
clashed-back (Err TooLarge) = refl

pub one-clash : (s : List ℕ) (a b : ℕ) (r q : Result (Maybe Pair) SumRefusal) → told_clashed r ≡ clash_spec s a b
    → told_clashed q ≡ clash_spec s a b → r ≡ q
one-clash s a b = one_answer told_clashed clashed_back clashed-back (clash_spec s a b)

abbrev back_back : Told Sources → Result (Maybe kept.Sources) SumRefusal
back_back nothing = Ok None
back_back (value (one x)) = Ok (Some (sources.One x))
back_back (value (two x y)) = Ok (Some (sources.Two x y))
back_back (refused n) = Err (cond (eqb n 4) TooLarge (Table (refusal n)))

back-back : (r : Result (Maybe kept.Sources) SumRefusal) → back_back (told_back r) ≡ r
back-back (Ok None) = refl
back-back (Ok (Some (sources.One x))) = refl
back-back (Ok (Some (sources.Two x y))) = refl
back-back (Err (Table Length)) = refl
back-back (Err (Table Count)) = refl
back-back (Err (Table Order)) = refl
back-back (Err TooLarge) = refl

pub one-way-back : (s : List ℕ) (a b t : ℕ) (r q : Result (Maybe kept.Sources) SumRefusal) → told_back r ≡ back_spec s a b t
    → told_back q ≡ back_spec s a b t → r ≡ q
one-way-back s a b t = one_answer told_back back_back back-back (back_spec s a b t)
