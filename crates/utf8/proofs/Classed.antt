-- The rule of a table of classes, and that no range of RFC 3629 tells a byte from the first of its class: tests that
-- antt computes over all bytes, carried to each of them.
-- Assumes nothing.
use mathlib.Core.Path.{◌≡◌, refl, subst}
use mathlib.Core.Logic.{◌≢◌}
use Prim.Native.Nat.{ℕ, ◌<◌}
use native.Mathlib.Omega.{arith}
use mathlib.Core.Bool.{Bool, true, false, cond, ◌||◌}
use mathlib.Core.List.{List, [], ◌∷◌, flatten}
use mathlib.Core.Option.{Option, none, some}
use lib.ListN.{get_or}
use lib.Dec.{eqb}
use borrow.Author.Tests.{eqb-true}
use Rattle.std.proofs.lemmas.Bool.{agree_below, agree_below_at}
use Rattle.utf8.specs.Classes.{class_of, Classed}
use Rattle.utf8.specs.Due.{following}
use Rattle.utf8.specs.Utf8.{Range, ◌to◌, UTF8-tail, holds, after_lead, UTF8-char}
use Rattle.utf8.specs.declared.classes.Follow.{Follow}
use Rattle.utf8.specs.declared.classes.Follow.TheVariants as follow
use Rattle.utf8.proofs.Leads.{passes, same, one-due}

-- a test that all bytes pass
abbrev pub all_bytes : (ℕ → Bool) → Bool
all_bytes p = passes p 0 256

each : (p : ℕ → Bool) → all_bytes p ≡ true → (b : ℕ) → b < 256 → p b ≡ true
each p t b h = agree_below_at p (λ (k : ℕ). true) 256 b t h

-- the rule, by one test over the whole table
pub record Tested (table : List ℕ) : Type 0 where
  pub test : all_bytes (λ (b : ℕ). eqb (get_or table b 0) (class_of b)) ≡ true

pub classed : (table : List ℕ) → Tested table → Classed table
classed table t b h =
    eqb-true (get_or table b 0) (class_of b) (each (λ (k : ℕ). eqb (get_or table k 0) (class_of k)) t.test b h)

-- a class goes by a byte of its own
pub class-again : (b : ℕ) → b < 256 → class_of (class_of b) ≡ class_of b
unfolding class_of flatten
class-again b h =
    eqb-true (class_of (class_of b)) (class_of b) (each (λ (k : ℕ). eqb (class_of (class_of k)) (class_of k)) refl b h)

-- the bytes of a class lead alike
pub class-leads : (b : ℕ) → b < 256 → after_lead UTF8-char (class_of b) ≡ after_lead UTF8-char b
unfolding class_of flatten after_lead
class-leads b h =
    one-due (after_lead UTF8-char (class_of b)) (after_lead UTF8-char b)
    (each (λ (k : ℕ). same (after_lead UTF8-char (class_of k)) (after_lead UTF8-char k)) refl b h)

alike : (f : Follow) → agree_below (λ (k : ℕ). holds (following f) (class_of k)) (holds (following f)) 256 ≡ true
    → (b : ℕ) → b < 256 → holds (following f) (class_of b) ≡ holds (following f) b
alike f t b h = agree_below_at (λ (k : ℕ). holds (following f) (class_of k)) (holds (following f)) 256 b t h

-- and follow alike
pub class-follows : (f : Follow) (b : ℕ) → b < 256 → holds (following f) (class_of b) ≡ holds (following f) b
unfolding class_of flatten
class-follows follow.Any = alike follow.Any refl
class-follows follow.Low = alike follow.Low refl
class-follows follow.High = alike follow.High refl
class-follows follow.NotLow = alike follow.NotLow refl
class-follows follow.NotHigh = alike follow.NotHigh refl

zero-fails : (f : Follow) → holds (following f) 0 ≡ false
zero-fails follow.Any = refl
zero-fails follow.Low = refl
zero-fails follow.High = refl
zero-fails follow.NotLow = refl
zero-fails follow.NotHigh = refl

-- a zero follows no byte
pub follow-not-zero : (f : Follow) (b : ℕ) → holds (following f) b ≡ true → b ≢ 0
follow-not-zero f b t z =
    let e : holds (following f) 0 ≡ true = subst (λ (k : ℕ). holds (following f) k ≡ true) z t in
    let wrong : ◌≡◌ {A = ℕ} 0 1 = cc (zero-fails f, e) in
    absurd (omega arith)

-- the classes whose bytes may come next
abbrev pub followers : Follow → List ℕ
followers follow.Any = 0x80 ∷ 0x90 ∷ 0xA0 ∷ []
followers follow.Low = 0x80 ∷ []
followers follow.High = 0xA0 ∷ []
followers follow.NotLow = 0x90 ∷ 0xA0 ∷ []
followers follow.NotHigh = 0x80 ∷ 0x90 ∷ []

abbrev pub among : List ℕ → ℕ → Bool
among [] k = false
among (c ∷ l) k = eqb k c || among l k

by_class : (f : Follow)
    → agree_below (holds (following f)) (λ (k : ℕ). among (followers f) (class_of k)) 256 ≡ true
    → (b : ℕ) → b < 256 → holds (following f) b ≡ among (followers f) (class_of b)
by_class f t b h = agree_below_at (holds (following f)) (λ (k : ℕ). among (followers f) (class_of k)) 256 b t h

pub allowed : (f : Follow) (b : ℕ) → b < 256 → holds (following f) b ≡ among (followers f) (class_of b)
unfolding class_of flatten
allowed follow.Any = by_class follow.Any refl
allowed follow.Low = by_class follow.Low refl
allowed follow.High = by_class follow.High refl
allowed follow.NotLow = by_class follow.NotLow refl
allowed follow.NotHigh = by_class follow.NotHigh refl

-- what the bytes of a class ask for where they begin a character
abbrev pub asked_by : ℕ → Option (List Range)
asked_by k =
    cond (eqb k 0x00) (some [])
    (cond (eqb k 0xC2) (some (UTF8-tail ∷ []))
    (cond (eqb k 0xE0) (some (0xA0 to 0xBF ∷ UTF8-tail ∷ []))
    (cond (eqb k 0xE1 || eqb k 0xEE) (some (UTF8-tail ∷ UTF8-tail ∷ []))
    (cond (eqb k 0xED) (some (0x80 to 0x9F ∷ UTF8-tail ∷ []))
    (cond (eqb k 0xF0) (some (0x90 to 0xBF ∷ UTF8-tail ∷ UTF8-tail ∷ []))
    (cond (eqb k 0xF1) (some (UTF8-tail ∷ UTF8-tail ∷ UTF8-tail ∷ []))
    (cond (eqb k 0xF4) (some (0x80 to 0x8F ∷ UTF8-tail ∷ UTF8-tail ∷ [])) none)))))))

pub leading : (b : ℕ) → b < 256 → after_lead UTF8-char b ≡ asked_by (class_of b)
unfolding class_of flatten after_lead
leading b h =
    one-due (after_lead UTF8-char b) (asked_by (class_of b))
    (each (λ (k : ℕ). same (after_lead UTF8-char k) (asked_by (class_of k))) refl b h)
