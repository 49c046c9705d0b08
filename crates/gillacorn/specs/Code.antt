-- The face's codes: 0 with a value, 255 for none, and a refusal by document 01's number.
use Rattle.std.specs.Prelude.{ℕ}
use Rattle.lent.specs.Paper.{Told, value, nothing, refused}
use Rattle.gillacorn.specs.declared.code.ValueAnswer.{ValueAnswer}

abbrev pub code_of : {A : Type 0} → Told A → ℕ
code_of (value x) = 0
code_of nothing = 255
code_of (refused n) = n

-- a value beside its code, and what stands there where there is none to give
abbrev pub coded : {A : Type 0} → A → Told A → ℕ × A
coded n (value x) = (0, x)
coded n nothing = (255, n)
coded n (refused k) = (k, n)

-- a number beside its code; 0 where there is none to give
abbrev pub value_answer : Told ℕ → ValueAnswer
value_answer (value x) = record { code = 0; value = x }
value_answer nothing = record { code = 255; value = 0 }
value_answer (refused n) = record { code = n; value = 0 }
