-- The loop that counts the pieces of a window: those counted fit, and with those left they are all pieces.
-- Assumes nothing.
use mathlib.Core.Path.{◌≡◌, refl, ap, ◌∙◌}
use Prim.Native.Nat.{ℕ, ◌+◌, ◌≤◌}
use native.Mathlib.Omega.{arith}
use mathlib.Core.Bool.{Bool, true, false}
use mathlib.Core.List.{List, [], ◌∷◌}
use mathlib.Core.Option.{Option, none, some}
use lib.ListN.{length}
use Rattle.lent.specs.Order.{order_fault, table_fault}
use Rattle.lent.specs.Paper.{first_fault}
use Rattle.lent.specs.Table.{omap_table, omap_shape}
use Rattle.lent.specs.Words.{put}
use Rattle.lent.proofs.Shaped.{at_most}
use Rattle.omap.specs.Records.{Entry, records}
use Rattle.omap.specs.Window.{Piece, next_of, piece_of, pieces, identity, window_pieces}
use Rattle.omap.specs.Output.{fits, all_fit, marked_fault}
use Rattle.omap.proofs.Pieces.{fit-more, fit-not}
use Rattle.omap.proofs.Starts.{length-records}

one_more : (p : Option Piece) (q : List Piece) → length (put p q) ≤ length q + 1
unfolding put
one_more none q = omega arith
one_more (some p) q = omega arith

-- a window has no more pieces than its table has records
few-pieces : (a b : ℕ) (l : List Entry) → length (pieces a b l) ≤ length l
unfolding pieces
few-pieces a b [] = omega arith
few-pieces a b (x ∷ l) =
    omega (arith, few-pieces a b l, one_more (piece_of a b x (next_of l)) (pieces a b l))

first-none : (f g : Option ℕ) → none ≡ first_fault f g → none ≡ f
first-none none g e = refl
first-none (some n) g e = cc

pub counted-few : (present : Bool) (s : List ℕ) (a b : ℕ) → none ≡ marked_fault present s
    → length (window_pieces present s a b) ≤ 1048576
unfolding table_fault
counted-few true s a b e =
    omega (
      arith,
      few-pieces a b (records s),
      length-records s,
      at_most omap_table s (first-none (omap_shape s) (order_fault 8 s) e),
    )
counted-few false s a b e = omega (arith, few-pieces a b (identity a))

pub record Counting (all left : List Piece) (count : ℕ) : Type 0 where
  pub number : count + length left ≡ length all
  pub fit : all_fit all ≡ all_fit left

pub counting-first : (all : List Piece) → Counting all all 0
counting-first all = record { number = omega arith; fit = refl }

module _ (all left : List Piece) (count : ℕ) (w : Counting all left count) where
  pub counting-last : left ≡ [] → (all_fit all ≡ true) × (count ≡ length all)
  unfolding all_fit
  counting-last e = (w.fit ∙ ap all_fit e, omega (arith, w.number, ap length e))

  module _ (p : Piece) (rest : List Piece) (f : left ≡ p ∷ rest) where
    pub counting-not : fits p ≡ false → all_fit all ≡ false
    counting-not e = w.fit ∙ ap all_fit f ∙ fit-not p rest e

    pub counting_more : fits p ≡ true → Counting all rest (count + 1)
    counting_more e = record {
      number = omega (arith, w.number, ap length f);
      fit = w.fit ∙ ap all_fit f ∙ fit-more p rest e;
    }
