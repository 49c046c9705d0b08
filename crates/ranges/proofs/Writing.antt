-- A loop that writes so many entries: those left to write, written onto the output as it is, give the output as it will
-- be.
-- Assumes nothing.
use mathlib.Core.Path.{◌≡◌, refl, sym, ap, ◌∙◌}
use Prim.Native.Nat.{ℕ, ◌+◌, ◌≤◌, ◌<◌}
use native.Mathlib.Numerals.{add-one, add-two}
use native.Mathlib.Omega.{arith}
use mathlib.Core.List.{List, [], ◌∷◌}
use lib.ListN.{length, set, length-set}
use lib.Seq.{sets}
use Rattle.lent.specs.Room.{written_over}
use Rattle.lent.proofs.Wrote.{front}

-- where the loop stands: k of n entries are in the output, and `at` gives the others, if there are any
pub record Writing {A S : Type 0} (Gives : S → List A → Type 0) (out₀ final : List A) (n : ℕ) (out : List A) (k : ℕ)
    (at : S) : Type 0 where
  pub left : List A
  pub gives : 0 < length left → Gives at left
  pub kept : length out ≡ length out₀
  pub number : k + length left ≡ n
  pub all : sets out k left ≡ final

none_left : {A : Type 0} (out : List A) (k : ℕ) (l final : List A) → length l ≡ 0 → sets out k l ≡ final → out ≡ final
none_left out k [] final e q = q
none_left out k (x ∷ l) final e q = absurd (omega arith)

module _ {A S : Type 0} {Gives : S → List A → Type 0} {out₀ final : List A} {n : ℕ} where
  pub writing-first : (at : S) (left : List A) → (0 < length left → Gives at left) → n ≡ length left → n ≤ length out₀
      → written_over left out₀ ≡ final → Writing Gives out₀ final n out₀ 0 at
  writing-first at left g e h q = record {
    left = left;
    gives = g;
    kept = refl;
    number = omega arith;
    all = front left out₀ (omega arith) ∙ q;
  }

  module _ {out : List A} {k : ℕ} {at : S} (w : Writing Gives out₀ final n out k at) where
    pub writing-last : n ≤ k → out ≡ final
    writing-last h = none_left out k w.left final (omega (arith, w.number)) w.all

    module _ (h : k < n) where
      pub some_left : 0 < length w.left
      some_left = omega (arith, w.number)

      pub writing-on : Gives at w.left
      writing-on = w.gives some_left

    module _ (next : S) {on : List A} (g : 0 < length on → Gives next on) where
      -- an entry more
      pub writing-one : (x : A) → w.left ≡ x ∷ on → Writing Gives out₀ final n (set out k x) (k + 1) next
      writing-one x e = record {
        left = on;
        gives = g;
        kept = simp length-set w.kept;
        number = omega (arith, w.number, ap length e);
        all = rw add-one (ap (sets out k) (sym e) ∙ w.all);
      }

      -- two more
      pub writing-two : (x y : A) → w.left ≡ x ∷ (y ∷ on)
          → Writing Gives out₀ final n (set (set out k x) (k + 1) y) (k + 2) next
      writing-two x y e = record {
        left = on;
        gives = g;
        kept = simp length-set w.kept;
        number = omega (arith, w.number, ap length e);
        all = rw (add-one, add-two) (ap (sets out k) (sym e) ∙ w.all);
      }
