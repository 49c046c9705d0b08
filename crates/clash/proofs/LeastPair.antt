-- The least pair of a window, one piece at a time: that of the first piece which shares a target with a later one.
-- Assumes nothing.
use mathlib.Core.Path.{◌≡◌, refl, sym, ap, ◌∙◌}
use Prim.Native.Nat.{ℕ, ◌+◌, ◌≤◌, ◌<◌}
use native.Mathlib.Omega.{arith}
use mathlib.Core.Bool.{true}
use mathlib.Core.List.{List, [], ◌∷◌}
use mathlib.Core.Option.{Option, none, some}
use Rattle.lent.specs.Words.{or_else, put}
use Rattle.lent.specs.Order.{rising, keys}
use Rattle.omap.specs.Records.{rest}
use Rattle.omap.specs.declared.lookups.Entry.{Entry}
use Rattle.omap.specs.Window.{next_of, pieces}
use Rattle.omap.specs.Walk.{Found}
use Rattle.std.specs.Prelude.{Some, is_some}
use Rattle.lent.specs.Table.{bytes_of}
use Rattle.omap.specs.Ahead.{ahead, Gives}
use Rattle.omap.specs.Told.{told_piece}
use Rattle.omap.specs.declared.piece.Piece as code
use Rattle.omap.specs.declared.walk.Pieces.{Pieces}
use Rattle.omap.specs.Window.{Piece}
use Rattle.omap.proofs.Pieces.{piece-empty}
use Rattle.clash.specs.Clash.{Pair}
use Rattle.clash.specs.Shared.{first_shared, from_piece, clash_of}
use Rattle.clash.proofs.Sharing.{shared-in}
use Rattle.clash.proofs.Later.{past-start}

pub no_pieces : (a b : ℕ) (l : List Entry) → b ≤ a → pieces a b l ≡ []
unfolding pieces put
no_pieces a b [] h = refl
no_pieces a b (x ∷ l) h = rw (piece-empty a b x (next_of l) (omega arith)) (no_pieces a b l h)

pub no-clash : (l : List Piece) → l ≡ [] → clash_of l ≡ none
unfolding clash_of
no-clash l e = rw e

-- a piece p of the walk, with n the place after its record
module _ (s : List ℕ) (a b i : ℕ) (p : Piece) (n : ℕ) (f : Found true s a b i p n) (o : Option Pair)
    (m : o ≡ first_shared (pieces 0 b (rest s n)) p.to p.size) where
  pub shared-inside : (t y : ℕ) → o ≡ some (record { first = t; second = y }) → (p.to ≤ t) × (t < p.to + p.size)
  shared-inside t y e =
      shared-in (pieces 0 b (rest s n)) p.size p.to (record { first = t; second = y }) (sym m ∙ e)

  -- the least pair from place i on: that of p, if it shares a target with a later piece, or else that of the later ones
  pub pair-from : rising (keys 8 s) ≡ true → clash_of (pieces a b (rest s i)) ≡ or_else (from_piece p o)
      (clash_of (pieces a b (rest s n)))
  unfolding clash_of
  pair-from r =
      let w : i < n = f.further in
      let q : first_shared (pieces a b (rest s n)) p.to p.size ≡ o
      = sym (m ∙ ap (λ (l : List Piece). first_shared l p.to p.size)
      (sym (past-start s a b n p (omega arith) r f.owned))) in
      rw (f.first, q)

-- the same of a walk over a table that is present, which gives the piece x
module _ (w later : Pieces) (x : code.Piece) (g : Gives w (Some x) later) (present : is_some w.table ≡ true)
    (o : Option Pair)
    (m : o ≡ first_shared (pieces 0 later.b (rest (bytes_of later.table) later.next)) x.to x.size) where
  abbrev s : List ℕ
  s = bytes_of w.table

  abbrev p : Piece
  p = told_piece x

  found : Found true s w.a w.b w.next p later.next
  found = rw present at g.1.found

  searched : o ≡ first_shared (pieces 0 w.b (rest s later.next)) p.to p.size
  searched = rw (g.1.of, g.1.end) at m

  pub still-present : is_some later.table ≡ true
  still-present = rw g.1.of present

  pub inside-piece : (t y : ℕ) → o ≡ some (record { first = t; second = y }) → (x.to ≤ t) × (t < x.to + x.size)
  inside-piece = shared-inside s w.a w.b w.next p later.next found o searched

  pub pair-given : clash_of (ahead w) ≡ or_else (from_piece p o) (clash_of (ahead later))
  pair-given =
      let order : rising (keys 8 s) ≡ true = w.in_order in
      rw (g.1.of, g.1.start, g.1.end, present) (pair-from s w.a w.b w.next p later.next found o searched order)
