-- The list's loop: the records left to write, written onto the list as it is, give the list as it will be.
-- Assumes nothing.
use mathlib.Core.Path.{◌≡◌, refl, sym, ap, ◌∙◌}
use Prim.Native.Nat.{ℕ, ◌+◌, ◌≤◌, ◌<◌}
use native.Mathlib.Numerals.{add-one}
use native.Mathlib.Omega.{arith}
use mathlib.Core.Bool.{Bool, true}
use mathlib.Core.List.{List, [], ◌∷◌, map}
use mathlib.Core.Option.{none}
use lib.ListN.{length, set, length-set, length-map}
use lib.Seq.{sets}
use Rattle.lent.specs.Room.{counted, written_over}
use Rattle.lent.proofs.Wrote.{front}
use Rattle.std.specs.Prelude.{Option as Maybe, Some, None, IsSome}
use Rattle.omap.specs.Ahead.{ahead, Gives}
use Rattle.omap.specs.Window.{Piece, window_pieces}
use Rattle.omap.specs.declared.piece.Piece as code
use Rattle.omap.specs.declared.walk.Pieces.{Pieces}
use Rattle.omap.specs.Output.{fits, all_fit, window_fault, window_spec}
use Rattle.omap.specs.Told.{as_range}
use Rattle.omap.specs.declared.piece.Range.{Range}
use Rattle.omap.proofs.Outputs.{answer-pieces}
use Rattle.omap.proofs.Pieces.{first_fits, others-fit}
use Rattle.ranges.specs.ListOut.{list_out}

-- a window that is not refused and has room leaves the records of its pieces
pub listed-out : (present : Bool) (s : List ℕ) (a b : ℕ) (out : List Range) (l : List Piece) (n : ℕ)
    → window_pieces present s a b ≡ l → none ≡ window_fault present s a b → n ≡ length l → n ≤ length out
    → written_over (map as_range l) out ≡ list_out present s a b out
unfolding list_out
listed-out present s a b out l n e f m h =
    let w : counted n ≡ window_spec present s a b (length out)
    = answer-pieces present s a b (length out) n f (m ∙ ap length (sym e)) h in
    rw (← w, e)

-- where the loop stands: k records of the pieces `all` are written, and those of `left` are to come
pub record Listing (all left : List Piece) (out₀ out : List Range) (k : ℕ) : Type 0 where
  pub kept : length out ≡ length out₀
  pub fit : all_fit left ≡ true
  pub number : k + length left ≡ length all
  pub room : length all ≤ length out
  pub more : sets out k (map as_range left) ≡ written_over (map as_range all) out₀

pub listing-first : (all : List Piece) (out : List Range) → all_fit all ≡ true → length all ≤ length out
    → Listing all all out out 0
listing-first all out f h = record {
  kept = refl;
  fit = f;
  number = omega arith;
  room = h;
  more = front (map as_range all) out (omega (arith, length-map all as_range));
}

nothing-left : (l : List Piece) → length l ≡ 0 → l ≡ []
nothing-left [] e = refl
nothing-left (p ∷ l) e = absurd (omega arith)

-- a walk that has a piece left gives one
pub gives-one : (p : Pieces) (x : Maybe code.Piece) (q : Pieces) → Gives p x q → 0 < length (ahead p) → IsSome x
gives-one p (Some x) q g h = refl
gives-one p None q g h = absurd (omega (arith, ap length g.0.0))

module _ (all left : List Piece) (out₀ out : List Range) (k : ℕ) (w : Listing all left out₀ out k) where
  pub listing-last : length all ≤ k → out ≡ written_over (map as_range all) out₀
  listing-last h =
      let e : left ≡ [] = nothing-left left (omega (arith, w.number)) in
      rw e at w.more

  pub some-left : k < length all → 0 < length left
  some-left h = omega (arith, w.number)

  module _ (p : Piece) (rest : List Piece) (e : left ≡ p ∷ rest) where
    here : all_fit (p ∷ rest) ≡ true
    here = rw e at w.fit

    pub next-fits : fits p ≡ true
    next-fits = first_fits p rest here

    pub room-here : k < length out
    room-here = omega (arith, ap length e, w.number, w.room)

    pub listing_more : Listing all rest out₀ (set out k (as_range p)) (k + 1)
    listing_more = record {
      kept = simp length-set w.kept;
      fit = others-fit p rest here;
      number = omega (arith, ap length e, w.number);
      room = simp length-set w.room;
      more = rw add-one (rw e at w.more);
    }
