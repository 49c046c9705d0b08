-- The loop that writes the pieces of a window: what is left to write, written onto the output as it is, gives the output
-- as it will be.
-- Assumes nothing.
use mathlib.Core.Path.{◌≡◌, refl}
use Prim.Native.Nat.{ℕ, ◌+◌, ◌*◌, ◌≤◌}
use native.Mathlib.Numerals.{add-one, add-two}
use native.Mathlib.Omega.{arith}
use mathlib.Core.Bool.{true}
use mathlib.Core.List.{List, [], ◌∷◌}
use lib.ListN.{length, set, length-set}
use lib.Seq.{sets}
use Rattle.lent.specs.Room.{written_over}
use Rattle.lent.proofs.Wrote.{front}
use Rattle.omap.specs.Window.{Piece}
use Rattle.omap.specs.Output.{beside_start, fits, all_fit, flat}
use Rattle.omap.proofs.Outputs.{length-flat}
use Rattle.omap.proofs.Pieces.{first_fits, others-fit}

pub record Filling (all left : List Piece) (out₀ out : List ℕ) (n : ℕ) : Type 0 where
  pub kept : length out ≡ length out₀
  pub fit : all_fit left ≡ true
  pub room : 2 * n + length (flat left) ≤ length out
  pub more : sets out (2 * n) (flat left) ≡ written_over (flat all) out₀

pub filling-first : (all : List Piece) (out : List ℕ) (n : ℕ) → all_fit all ≡ true → n ≡ length all
    → 2 * n ≤ length out → Filling all all out out 0
filling-first all out n f e h =
    let room : length (flat all) ≤ length out = omega (arith, length-flat all) in
    record { kept = refl; fit = f; room = omega arith; more = front (flat all) out room }

module _ (all left : List Piece) (out₀ out : List ℕ) (n : ℕ) (w : Filling all left out₀ out n) where
  pub filling-last : left ≡ [] → out ≡ written_over (flat all) out₀
  unfolding flat
  filling-last e = rw e at w.more

  module _ (p : Piece) (rest : List Piece) (f : left ≡ p ∷ rest) where
    fit-here : all_fit (p ∷ rest) ≡ true
    fit-here = rw f at w.fit

    pub next-fits : fits p ≡ true
    next-fits = first_fits p rest fit-here

    room-more : 2 * n + (2 + length (flat rest)) ≤ length out
    unfolding flat
    room-more = omega (arith, rw f at w.room)

    pub room-here : 2 * n + 2 ≤ length out
    room-here = omega (arith, room-more)

    pub filling-more : Filling all rest out₀ (set (set out (2 * n) p.to) (2 * n + 1) (beside_start p)) (n + 1)
    unfolding flat
    filling-more =
        let e : 2 * (n + 1) ≡ 2 * n + 2 = omega arith in
        record {
          kept = simp length-set w.kept;
          fit = others-fit p rest fit-here;
          room = simp length-set (omega (arith, room-more));
          more = rw (e, add-one, add-two) (rw f at w.more);
        }
