-- Sources and clashes of a window by its pieces: what the addresses say, one by one, is what `sources_in` and `clash_of`
-- compute.
-- Assumes nothing.
use mathlib.Core.Path.{◌≡◌, refl, ap, ◌∙◌}
use mathlib.Core.Logic.{⊎_elim}
use Prim.Native.Nat.{ℕ, zero, suc, ◌+◌, ◌-◌, ◌≤◌, ◌<◌}
use native.Mathlib.Omega.{arith}
use native.Mathlib.Nat.{eq-or-lt_of_le}
use mathlib.Core.Bool.{true, and-false}
use mathlib.Core.List.{List, [], ◌∷◌, ◌++◌}
use mathlib.Core.Option.{Option, none, some}
use lib.Dec.{leb}
use borrow.Author.Tests.{lt-ltb, le-ltb, le-leb, lt-leb, eq-eqb, ne_eqb}
use Rattle.lent.specs.Words.{or_else, put}
use Rattle.lent.specs.Order.{rising}
use Rattle.lent.proofs.Logic.{lt-or-le}
use Rattle.omap.specs.Records.{sources, single}
use Rattle.omap.specs.declared.lookups.Entry.{Entry}
use Rattle.omap.specs.Window.{pieces}
use Rattle.omap.specs.Window.{Piece}
use Rattle.omap.specs.Expand.{range}
use Rattle.clash.specs.Clash.{sources_of, Pair, paired_or, first_clash}
use Rattle.clash.specs.Shared.{source_in, sources_in, first_shared, from_piece, clash_of}
use Rattle.clash.proofs.Sent.{Sent, run, sent_pieces, window-sent, sources_at, clash_in, sources-sent, clash-sent}

-- a target is below a piece, past it, or of one address in it
module _ (t : ℕ) (p : Piece) where
  pub source-below : t < p.to → source_in t p ≡ none
  unfolding source_in
  source-below h = rw (lt-leb p.to t h)

  pub source-past : p.to + p.size ≤ t → source_in t p ≡ none
  unfolding source_in
  source-past h = rw (le-ltb t (p.to + p.size) h, and-false (leb p.to t))

  pub source-here : p.to ≤ t → t < p.to + p.size → source_in t p ≡ some (p.at + (t - p.to))
  unfolding source_in
  source-here l h = rw (le-leb p.to t l, lt-ltb t (p.to + p.size) h)

-- the same of a run before others
module _ (t : ℕ) (g : List Sent) where
  run-below : (n x v : ℕ) → t < v → sources_at t (run x v n ++ g) ≡ sources_at t g
  unfolding run sources_at
  run-below zero x v h = refl
  run-below (suc n) x v h = rw (ne_eqb v t (λ e. omega arith)) (run-below n (suc x) (suc v) (omega arith))

  run_past : (n x v : ℕ) → v + n ≤ t → sources_at t (run x v n ++ g) ≡ sources_at t g
  unfolding run sources_at
  run_past zero x v h = refl
  run_past (suc n) x v h = rw (ne_eqb v t (λ e. omega arith)) (run_past n (suc x) (suc v) (omega arith))

  run-here : (n x v : ℕ) → v ≤ t → t < v + n → sources_at t (run x v n ++ g) ≡ (x + (t - v)) ∷ sources_at t g
  unfolding run sources_at
  run-here zero x v l h = absurd (omega arith)
  run-here (suc n) x v l h =
      ⊎_elim
      (λ (e : v ≡ t).
      let z : x + (t - v) ≡ x = omega arith in
      rw (eq-eqb v t e, z, run-below n (suc x) (suc v) (omega arith)))
      (λ (m : v < t).
      let z : x + (t - v) ≡ suc x + (t - suc v) = omega arith in
      rw (ne_eqb v t (λ e. omega arith), z) (run-here n (suc x) (suc v) m (omega arith)))
      (eq-or-lt_of_le l)

sources-run : (t : ℕ) (p : Piece) (g : List Sent) → sources_at t (run p.at p.to p.size ++ g) ≡ put
    (source_in t p) (sources_at t g)
unfolding put
sources-run t p g =
    ⊎_elim
    (λ (h : t < p.to). rw (source-below t p h) (run-below t g p.size p.at p.to h))
    (λ (l : p.to ≤ t).
    ⊎_elim
    (λ (h : t < p.to + p.size). rw (source-here t p l h) (run-here t g p.size p.at p.to l h))
    (λ (h : p.to + p.size ≤ t). rw (source-past t p h) (run_past t g p.size p.at p.to h))
    (lt-or-le t (p.to + p.size)))
    (lt-or-le t p.to)

sources-pieces : (t : ℕ) (l : List Piece) → sources_at t (sent_pieces l) ≡ sources_in t l
unfolding sources_at sent_pieces sources_in
sources-pieces t [] = refl
sources-pieces t (p ∷ l) = sources-run t p (sent_pieces l) ∙ ap (put (source_in t p)) (sources-pieces t l)

-- a pair found from a target, as one found from an address
from-target : (p : Piece) (x t : ℕ) (ys : List ℕ) (o c : Option Pair) → x ≡ p.at + (t - p.to)
    → paired_or x ys (or_else (from_piece p o) c) ≡ or_else (from_piece p (paired_or t ys o)) c
unfolding paired_or or_else
from-target p x t [] o c e = refl
from-target p x t (y ∷ ys) o c e = rw e

-- from the k-th address of a piece on: no address of the piece shares its target with another of it
clash-run : (p : Piece) (l : List Piece) (n k : ℕ)
    → clash_in (run (p.at + k) (p.to + k) n ++ sent_pieces l) ≡ or_else (from_piece p (first_shared l (p.to + k) n))
    (clash_in (sent_pieces l))
unfolding run clash_in first_shared or_else
clash-run p l zero k = refl
clash-run p l (suc n) k =
    let e : suc (p.at + k) ≡ p.at + suc k = omega arith in
    let f : suc (p.to + k) ≡ p.to + suc k = omega arith in
    rw (
      run-below (p.to + k) (sent_pieces l) n (suc (p.at + k)) (suc (p.to + k)) (omega arith),
      sources-pieces
          (p.to + k) l,
      e,
      f,
      clash-run p l n (suc k),
    )
    (from-target p (p.at + k) (p.to + k) (sources_in (p.to + k) l) (first_shared l (p.to + suc k) n)
    (clash_in (sent_pieces l)) (omega arith))

clash-pieces : (l : List Piece) → clash_in (sent_pieces l) ≡ clash_of l
unfolding clash_in sent_pieces clash_of
clash-pieces [] = refl
clash-pieces (p ∷ l) =
    let e : p.at + 0 ≡ p.at = omega arith in
    let f : p.to + 0 ≡ p.to = omega arith in
    let g : clash_in (run (p.at + 0) (p.to + 0) p.size ++ sent_pieces l) ≡ or_else
    (from_piece p (first_shared l (p.to + 0) p.size)) (clash_in (sent_pieces l)) = clash-run p l p.size 0 in
    (rw (e, f) at g) ∙ ap (or_else (from_piece p (first_shared l p.to p.size))) (clash-pieces l)

module _ (a b : ℕ) (l : List Entry) (r : rising (sources l) ≡ true) (w : b ≤ 4294967296) where
  pub sources-by-pieces : (t : ℕ) → sources_of (single l) t (range a b) ≡ sources_in t (pieces a b l)
  sources-by-pieces t = sources-sent (single l) t (range a b) ∙ ap (sources_at t) (window-sent a b l r w)
      ∙ sources-pieces t (pieces a b l)

  pub clash-by-pieces : first_clash (single l) (range a b) ≡ clash_of (pieces a b l)
  clash-by-pieces = clash-sent (single l) (range a b) ∙ ap clash_in (window-sent a b l r w) ∙ clash-pieces (pieces a b l)
