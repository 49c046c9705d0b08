-- The lent list of records holds what the flat output holds: `pairs-of-list`. So an answer that fits the contract of
-- `window` or of the reader's `drain`, into two places for each record, is that of the list.
-- Assumes nothing.
use Rattle.std.proofs.Common.{◌≡◌, ℕ, zero, suc, ◌+◌, ◌/◌, Bool, List, [], ◌∷◌, ◌++◌, map, length, drop, sym, refl, ap, ◌∙◌, arith}
use Rattle.lent.specs.Room.{Written, counted, refused_as, refused_for, out_after}
use Rattle.omap.specs.Window.{Piece, window_pieces}
use Rattle.omap.specs.Output.{flat, window_spec, window_out}
use Rattle.omap.specs.Told.{as_range}
use Rattle.omap.specs.declared.piece.Range.{Range}
use Rattle.ranges.specs.ListOut.{list_out}

-- the records as pairs
unfoldable pub pairs : List Range → List ℕ
pairs [] = []
pairs (p ∷ l) = p.start ∷ (p.end ∷ pairs l)

pairs-append : (l r : List Range) → pairs (l ++ r) ≡ pairs l ++ pairs r
unfolding pairs
pairs-append [] r = refl
pairs-append (p ∷ l) r = rw (pairs-append l r)

pairs-drop : (k : ℕ) (l : List Range) → pairs (drop k l) ≡ drop (k + k) (pairs l)
unfolding pairs
pairs-drop zero l = refl
pairs-drop (suc k) [] = let e : suc k + suc k ≡ suc (suc (k + k)) = omega arith in rw e
pairs-drop (suc k) (p ∷ l) = let e : suc k + suc k ≡ suc (suc (k + k)) = omega arith in rw e (pairs-drop k l)

pairs-length : (l : List Range) → length (pairs l) ≡ length l + length l
unfolding pairs
pairs-length [] = refl
pairs-length (p ∷ l) = omega (arith, pairs-length l)

pairs-half : (l : List Range) → length (pairs l) / 2 ≡ length l
pairs-half l = omega (arith, pairs-length l)

-- a window's records as pairs are its pieces as pairs
pairs-flat : (l : List Piece) → pairs (map as_range l) ≡ flat l
unfolding pairs flat
pairs-flat [] = refl
pairs-flat (p ∷ l) = rw (pairs-flat l)

-- what a call leaves in records, as pairs, is what it leaves in their places
pairs-after : (w : Written) (l : List Piece) (out : List Range) → pairs
    (out_after w (map as_range l) out) ≡ out_after w (flat l) (pairs out)
pairs-after (counted n) l out =
    let e : length (map as_range l) + length (map as_range l) ≡ length (flat l) = sym (pairs-length (map as_range l))
    ∙ ap length (pairs-flat l) in
    rw (pairs-append, pairs-drop, e, pairs-flat)
pairs-after (refused_as n) l out = refl
pairs-after (refused_for n k) l out = refl

pub pairs-of-list : (present : Bool) (s : List ℕ) (a b : ℕ) (out : List Range) → pairs
    (list_out present s a b out) ≡ window_out present s a b (pairs out)
unfolding list_out window_out
pairs-of-list present s a b out =
    rw pairs-half (pairs-after (window_spec present s a b (length out)) (window_pieces present s a b) out)
