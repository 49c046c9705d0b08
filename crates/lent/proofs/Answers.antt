-- An answer that can be read back from the paper's terms is the only one that reads so.
-- Assumes nothing.
use mathlib.Core.Path.{◌≡◌, refl, sym, ap, ◌∙◌}
use Prim.Native.Nat.{ℕ}
use mathlib.Core.Bool.{cond}
use mathlib.Core.Option.{Option, none, some}
use Rattle.std.specs.Prelude.{Option as Maybe, Some, None}
use Rattle.lent.specs.Words.{optional}
use lib.Dec.{eqb}
use Rattle.lent.specs.declared.refusal.Refusal.{Refusal}
use Rattle.lent.specs.declared.refusal.Refusal.TheVariants.{Length, Count, Order}

-- the refusal of a table by its number
abbrev pub refusal : ℕ → Refusal
refusal n = cond (eqb n 1) Length (cond (eqb n 2) Count Order)

-- an optional value as the code has it
abbrev pub maybe : {A : Type 0} → Option A → Maybe A
maybe (some x) = Some x
maybe none = None

pub maybe-back : {A : Type 0} (x : Maybe A) → maybe (optional x) ≡ x
maybe-back (Some x) = refl
maybe-back None = refl

-- two answers that read as t are one, where an answer can be read back
pub one_answer : {A B : Type 0} (told : A → B) (back : B → A) → ((x : A) → back (told x) ≡ x) → (t : B) (r q : A)
    → told r ≡ t → told q ≡ t → r ≡ q
one_answer told back is t r q e f = sym (is r) ∙ ap back (e ∙ sym f) ∙ is q
