-- What document 01 lets an operation answer: a value, none, or a refusal by its number.
use Rattle.std.specs.Prelude.{ℕ, cond, leb, Result, Ok, Err, Option as Maybe, Some, None}
use Rattle.std.proofs.Math.Option.{Option, none, some}
use Rattle.lent.specs.declared.refusal.Refusal.{Refusal}
use Rattle.lent.specs.declared.refusal.Refusal.TheVariants.{Length, Count, Order}
use Rattle.lent.specs.declared.refusal.SumRefusal.{SumRefusal}
use Rattle.lent.specs.declared.refusal.SumRefusal.TheVariants.{Table, TooLarge}

pub data Told (A : Type 0) : Type 0 where
  value : A → Told A
  nothing : Told A
  refused : ℕ → Told A

-- the refusal that a table gives by its number, if it gives one, comes before any other answer
abbrev pub unless : {A : Type 0} → Option ℕ → Told A → Told A
unless none t = t
unless (some n) t = refused n

-- of two refusals the first wins
abbrev pub first_fault : Option ℕ → Option ℕ → Option ℕ
first_fault none g = g
first_fault (some n) g = some n

-- the next step of a path, taken where the steps before it gave a value
abbrev pub and_then : {A B : Type 0} → Told A → (A → Told B) → Told B
and_then (value x) f = f x
and_then nothing f = nothing
and_then (refused n) f = refused n

-- a number that may be missing: 4 if it does not fit 32 bits
abbrev pub fitted : Option ℕ → Told ℕ
fitted none = nothing
fitted (some t) = cond (leb t 4294967295) (value t) (refused 4)

-- the paper's number of each refusal that a table can give
abbrev pub number : Refusal → ℕ
number Length = 1
number Count = 2
number Order = 3

abbrev pub sum_number : SumRefusal → ℕ
sum_number (Table why) = number why
sum_number TooLarge = 4

-- A call's answer, where `number` gives the paper's number of what it may be refused for: a value or none;
abbrev pub told : {A E : Type 0} → (E → ℕ) → Result (Maybe A) E → Told A
told number (Ok (Some x)) = value x
told number (Ok None) = nothing
told number (Err why) = refused (number why)

-- a value always;
abbrev pub told_value : {A E : Type 0} → (E → ℕ) → Result A E → Told A
told_value number (Ok x) = value x
told_value number (Err why) = refused (number why)

-- a test of a table, which answers nothing but a refusal
abbrev pub told_fault : Result (Unit {0}) Refusal → Option ℕ
told_fault (Ok x) = none
told_fault (Err why) = some (number why)
