-- What the window's calls answer and leave behind, from what the code's tests found.
-- Assumes nothing.
use mathlib.Core.Path.{◌≡◌, refl, sym, ap, ◌∙◌}
use Prim.Native.Nat.{ℕ, ◌*◌, ◌/◌, ◌≤◌, ◌<◌}
use native.Mathlib.Omega.{arith}
use mathlib.Core.Bool.{Bool, true, false}
use mathlib.Core.List.{List, [], ◌∷◌}
use mathlib.Core.Option.{none, some}
use lib.ListN.{length}
use borrow.Author.Tests.{le-leb, lt-leb}
use Rattle.lent.specs.Order.{keys, rising}
use Rattle.lent.specs.Paper.{value, refused}
use Rattle.lent.specs.Room.{Written, counted, refused_as, refused_for, room_for, out_after}
use Rattle.omap.specs.Window.{Piece, window_pieces}
use Rattle.omap.specs.Output.{all_fit, sum_fault, marked_fault, window_fault, count_spec, flat}
use Rattle.omap.specs.Output.{window_spec, window_out}
use Rattle.omap.proofs.Last.{in_order}

pub length-flat : (l : List Piece) → length (flat l) ≡ 2 * length l
unfolding flat
length-flat [] = refl
length-flat (p ∷ l) = omega (arith, length-flat l)

-- a table that is not refused is in order
pub checked-order : (present : Bool) (s : List ℕ) → present ≡ true → none ≡ marked_fault present s
    → rising (keys 8 s) ≡ true
checked-order true s p e = in_order s (sym e)
checked-order false s p e = cc

-- the refusals of a window, from what the code found
module _ (present : Bool) (s : List ℕ) (a b : ℕ) where
  pub window-refused : (n : ℕ) → some n ≡ marked_fault present s → some n ≡ window_fault present s a b
  unfolding window_fault
  window-refused n e = rw (← e)

  pub window-large : none ≡ marked_fault present s → all_fit (window_pieces present s a b) ≡ false
      → some 4 ≡ window_fault present s a b
  unfolding window_fault sum_fault
  window-large e f = rw (← e, f)

  pub window-good : none ≡ marked_fault present s → all_fit (window_pieces present s a b) ≡ true
      → none ≡ window_fault present s a b
  unfolding window_fault sum_fault
  window-good e f = rw (← e, f)

-- what the calls answer and leave behind, from the window's refusal or from its number of pieces
module _ (present : Bool) (s : List ℕ) (a b : ℕ) where
  pub count-refused : (n : ℕ) → some n ≡ window_fault present s a b → refused n ≡ count_spec present s a b
  unfolding count_spec
  count-refused n e = rw (← e)

  pub count-pieces : (n : ℕ) → none ≡ window_fault present s a b → n ≡ length (window_pieces present s a b)
      → value n ≡ count_spec present s a b
  unfolding count_spec
  count-pieces n e f = rw (← e, f)

  pub answer-refused : (room n : ℕ) → some n ≡ window_fault present s a b → refused_as n ≡ window_spec present s a b room
  unfolding window_spec
  answer-refused room n e = rw (← e)

  module _ (room n : ℕ) (e : none ≡ window_fault present s a b) (f : n ≡ length (window_pieces present s a b)) where
    pub answer-short : room < n → refused_for 5 n ≡ window_spec present s a b room
    unfolding window_spec room_for
    answer-short h = rw (← e, ← f, lt-leb n room h)

    pub answer-pieces : n ≤ room → counted n ≡ window_spec present s a b room
    unfolding window_spec room_for
    answer-pieces h = rw (← e, ← f, le-leb n room h)

  -- the output, by the answer
  pub output-after : (out : List ℕ) (w : Written) → w ≡ window_spec present s a b (length out / 2) → (last : List ℕ)
      → last ≡ out_after w (flat (window_pieces present s a b)) out → last ≡ window_out present s a b out
  unfolding window_out
  output-after out w e last q = q ∙ ap (λ (v : Written). out_after v (flat (window_pieces present s a b)) out) e
