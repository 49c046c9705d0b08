-- The paper's number says which refusal it was: a promise in the paper's terms leaves one answer.
-- Assumes nothing.
use mathlib.Core.Path.{◌≡◌, refl, ap}
use Prim.Native.Nat.{ℕ}
use Rattle.std.specs.Prelude.{Result, Ok, Err, Option as Maybe, Some, None}
use Rattle.lent.specs.Paper.{number, sum_number, told, told_value, told_fault}
use Rattle.lent.specs.declared.refusal.Refusal.{Refusal}
use Rattle.lent.specs.declared.refusal.Refusal.TheVariants.{Length, Count, Order}
use Rattle.lent.specs.declared.refusal.SumRefusal.{SumRefusal}
use Rattle.lent.specs.declared.refusal.SumRefusal.TheVariants.{Table, TooLarge}

pub one_number : (v w : Refusal) → number v ≡ number w → v ≡ w
one_number Length Length e = refl
one_number Length Count e = cc
one_number Length Order e = cc
one_number Count Length e = cc
one_number Count Count e = refl
one_number Count Order e = cc
one_number Order Length e = cc
one_number Order Count e = cc
one_number Order Order e = refl

pub one_sum_number : (v w : SumRefusal) → sum_number v ≡ sum_number w → v ≡ w
one_sum_number (Table v) (Table w) e = ap Table (one_number v w e)
one_sum_number (Table Length) TooLarge e = cc
one_sum_number (Table Count) TooLarge e = cc
one_sum_number (Table Order) TooLarge e = cc
one_sum_number TooLarge (Table Length) e = cc
one_sum_number TooLarge (Table Count) e = cc
one_sum_number TooLarge (Table Order) e = cc
one_sum_number TooLarge TooLarge e = refl

pub one-checked : (r q : Result (Unit {0}) Refusal) → told_fault r ≡ told_fault q → r ≡ q
one-checked (Ok x) (Ok y) e = refl
one-checked (Ok x) (Err w) e = cc
one-checked (Err v) (Ok x) e = cc
one-checked (Err v) (Err w) e = let n : number v ≡ number w = cc in ap Err (one_number v w n)

-- What a call answers, where each refusal has a number of its own.
module _ {A E : Type 0} (number : E → ℕ) (one : (v w : E) → number v ≡ number w → v ≡ w) where
  pub one_told : (r q : Result (Maybe A) E) → told number r ≡ told number q → r ≡ q
  one_told (Ok (Some x)) (Ok (Some y)) e = let s : x ≡ y = cc in cc
  one_told (Ok (Some x)) (Ok None) e = cc
  one_told (Ok (Some x)) (Err w) e = cc
  one_told (Ok None) (Ok (Some y)) e = cc
  one_told (Ok None) (Ok None) e = refl
  one_told (Ok None) (Err w) e = cc
  one_told (Err v) (Ok (Some y)) e = cc
  one_told (Err v) (Ok None) e = cc
  one_told (Err v) (Err w) e = let n : number v ≡ number w = cc in ap Err (one v w n)

  pub one_value : (r q : Result A E) → told_value number r ≡ told_value number q → r ≡ q
  one_value (Ok x) (Ok y) e = let s : x ≡ y = cc in cc
  one_value (Ok x) (Err w) e = cc
  one_value (Err v) (Ok y) e = cc
  one_value (Err v) (Err w) e = let n : number v ≡ number w = cc in ap Err (one v w n)
