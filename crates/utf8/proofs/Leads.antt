-- What follows the bytes of a range that lead alike: one test that antt computes over the range, carried to each of its
-- bytes.
-- Assumes nothing.
use mathlib.Core.Path.{◌≡◌, refl, ap, ◌∙◌}
use Prim.Native.Nat.{ℕ, ◌+◌, ◌-◌, ◌≤◌, ◌<◌}
use native.Mathlib.Omega.{arith}
use mathlib.Core.Bool.{Bool, true, false, ◌&&◌}
use mathlib.Core.List.{List, [], ◌∷◌}
use mathlib.Core.Option.{Option, none, some}
use lib.Dec.{eqb}
use borrow.Author.Tests.{eqb-true}
use Rattle.std.proofs.lemmas.Bool.{agree_below, agree_below_at}
use Rattle.lent.proofs.Logic.{and_left, and_right}
use Rattle.utf8.specs.Utf8.{Range, after_lead, UTF8-char}

-- a test passes at n numbers from lo on
abbrev pub passes : (ℕ → Bool) → ℕ → ℕ → Bool
passes p lo n = agree_below (λ (k : ℕ). p (lo + k)) (λ (k : ℕ). true) n

abbrev same_range : Range → Range → Bool
same_range r q = eqb r.low q.low && eqb r.high q.high

abbrev same_ranges : List Range → List Range → Bool
same_ranges [] [] = true
same_ranges [] (q ∷ qs) = false
same_ranges (r ∷ rs) [] = false
same_ranges (r ∷ rs) (q ∷ qs) = same_range r q && same_ranges rs qs

abbrev pub same : Option (List Range) → Option (List Range) → Bool
same none none = true
same none (some q) = false
same (some r) none = false
same (some r) (some q) = same_ranges r q

one-range : (r q : Range) → same_range r q ≡ true → r ≡ q
one-range r q t =
    let lows = eqb r.low q.low in
    let highs = eqb r.high q.high in
    let low : r.low ≡ q.low = eqb-true r.low q.low (and_left lows highs t) in
    let high : r.high ≡ q.high = eqb-true r.high q.high (and_right lows highs t) in
    ap (λ (n : ℕ). record { low = n; high = r.high }) low ∙ ap (λ (n : ℕ). record { low = q.low; high = n }) high

one-row : (r q : List Range) → same_ranges r q ≡ true → r ≡ q
one-row [] [] t = refl
one-row [] (q ∷ qs) t = cc
one-row (r ∷ rs) [] t = cc
one-row (r ∷ rs) (q ∷ qs) t =
    let e : r ≡ q = one-range r q (and_left (same_range r q) (same_ranges rs qs) t) in
    let f : rs ≡ qs = one-row rs qs (and_right (same_range r q) (same_ranges rs qs) t) in
    cc

pub one-due : (r q : Option (List Range)) → same r q ≡ true → r ≡ q
one-due none none t = refl
one-due none (some q) t = cc
one-due (some r) none t = cc
one-due (some r) (some q) t = ap some (one-row r q t)

-- what is due after each of the n bytes from lo on
pub led : (due : Option (List Range)) (lo n : ℕ) → passes (λ (b : ℕ). same due (after_lead UTF8-char b)) lo n ≡ true
    → (b : ℕ) → lo ≤ b → b < lo + n → due ≡ after_lead UTF8-char b
led due lo n t b h l =
    let e : lo + (b - lo) ≡ b = omega arith in
    let test = λ (k : ℕ). same due (after_lead UTF8-char (lo + k)) in
    one-due due (after_lead UTF8-char b) (rw e at (agree_below_at test (λ (k : ℕ). true) n (b - lo) t (omega arith)))
