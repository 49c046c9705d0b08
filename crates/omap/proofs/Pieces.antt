-- The piece of a record, and the pieces of a table one record at a time.
-- Assumes nothing.
use mathlib.Core.Path.{◌≡◌, refl}
use mathlib.Core.Logic.{⊎_elim}
use native.Mathlib.Nat.{eq-zero-or-pos}
use Prim.Native.Nat.{ℕ, zero, suc, ◌+◌, ◌-◌, ◌/◌, ◌≤◌, ◌<◌, max, min}
use native.Mathlib.Omega.{arith}
use mathlib.Core.Bool.{true, false, and-false}
use mathlib.Core.List.{List, [], ◌∷◌}
use mathlib.Core.Option.{none, some}
use lib.ListN.{length}
use lib.Dec.{ltb}
use borrow.Author.Tests.{lt-ltb, le-ltb, le-leb, eq-eqb, ne_eqb, leb-true}
use Rattle.lent.specs.Words.{put}
use Rattle.lent.specs.Table.{listed}
use Rattle.lent.proofs.Place.{listed-step, listed-end, listed-all}
use Rattle.lent.proofs.Logic.{lt-or-le, and_left, and_right}
use Rattle.omap.specs.Records.{Entry, entry_at, records, rest}
use Rattle.omap.specs.Window.{Piece, next_of, piece_of, pieces}
use Rattle.omap.specs.Output.{beside_start, fits, all_fit}
use Rattle.omap.specs.Walk.{part_at}
use Rattle.omap.proofs.Last.{src}

module _ (s : List ℕ) (i : ℕ) where
  pub next-some : i < length s / 8 → next_of (rest s i) ≡ src s i
  unfolding next_of
  next-some h = rw (listed-step (entry_at s) i (length s / 8) h)

  pub next-none : length s / 8 ≤ i → next_of (rest s i) ≡ 4294967296
  unfolding next_of
  next-none h = rw (listed-end (entry_at s) i (length s / 8) h)

-- the piece that a mapped record has between lo and hi
abbrev pub between : Entry → ℕ → ℕ → Piece
between x lo hi = record { at = lo; size = hi - lo; to = lo - x.source + x.target }

module _ (a b : ℕ) (x : Entry) (e : ℕ) where
  pub piece-empty : min b e ≤ max a x.source → piece_of a b x e ≡ none
  unfolding piece_of
  piece-empty h = rw (le-ltb (max a x.source) (min b e) h)

  pub piece-zero : x.target ≡ 0 → piece_of a b x e ≡ none
  unfolding piece_of
  piece-zero h = rw (eq-eqb x.target 0 h, and-false (ltb (max a x.source) (min b e)))

  pub piece-some : max a x.source < min b e → (x.target ≡ 0 → ⊥) → piece_of a b x e ≡ some
      (between x (max a x.source) (min b e))
  unfolding piece_of
  piece-some h z = rw (lt-ltb (max a x.source) (min b e) h, ne_eqb x.target 0 z)

module _ (s : List ℕ) (a b i : ℕ) (h : i < length s / 8) where
  pieces_step : pieces a b (rest s i) ≡ put (part_at s a b i) (pieces a b (rest s (i + 1)))
  unfolding pieces
  pieces_step = rw (listed-step (entry_at s) i (length s / 8) h)

  pub step-none : part_at s a b i ≡ none → pieces a b (rest s i) ≡ pieces a b (rest s (i + 1))
  unfolding put
  step-none e = rw (pieces_step, e)

  pub step-some : (p : Piece) → part_at s a b i ≡ some p → pieces a b (rest s i) ≡ p ∷ pieces a b (rest s (i + 1))
  unfolding put
  step-some p e = rw (pieces_step, e)

pub all_first : (s : List ℕ) → records s ≡ rest s 0
unfolding records
all_first s = listed-all (entry_at s) (length s / 8)

pub none_left : (s : List ℕ) (a b i : ℕ) → length s / 8 ≤ i → pieces a b (rest s i) ≡ []
unfolding pieces
none_left s a b i h = rw (listed-end (entry_at s) i (length s / 8) h)

-- records that begin at or past b have no piece
pub past_all : (s : List ℕ) (a b i n : ℕ) → ((j : ℕ) → i ≤ j → j < i + n → b ≤ src s j) → pieces a b
    (listed (entry_at s) i n) ≡ []
unfolding pieces listed put
past_all s a b i zero h = refl
past_all s a b i (suc n) h =
    rw (piece-empty a b (entry_at s i) (next_of (listed (entry_at s) (suc i) n))
    (omega (arith, h i (omega arith) (omega arith))))
    (past_all s a b (suc i) n (λ j m l. h j (omega arith) (omega arith)))

-- whether pieces fit, one at a time; what a piece that fits shows is below 2 ^ 32
module _ (p : Piece) where
  pub fits-shown : fits p ≡ true → (p.to ≤ 4294967295) × (beside_start p ≤ 4294967295)
  unfolding fits beside_start
  fits-shown f = let h : p.to + p.size ≤ 4294967295 = leb-true (p.to + p.size) 4294967295 f in (omega arith, h)

  -- what a piece that fits is taken to is below 2 ^ 32, and a piece that ends no later fits too
  pub fits-target : fits p ≡ true → (t : ℕ) → t < p.to + p.size → t ≤ 4294967295
  unfolding fits
  fits-target f t h = let e : p.to + p.size ≤ 4294967295 = leb-true (p.to + p.size) 4294967295 f in omega arith

  pub fits-less : fits p ≡ true → (q : Piece) → q.to + q.size ≤ p.to + p.size → fits q ≡ true
  unfolding fits
  fits-less f q h =
      let e : p.to + p.size ≤ 4294967295 = leb-true (p.to + p.size) 4294967295 f in
      le-leb (q.to + q.size) 4294967295 (omega arith)

  module _ (l : List Piece) where
    pub fit-more : fits p ≡ true → all_fit (p ∷ l) ≡ all_fit l
    unfolding all_fit
    fit-more f = rw f

    pub fit-not : fits p ≡ false → all_fit (p ∷ l) ≡ false
    unfolding all_fit
    fit-not f = rw f

    pub first_fits : all_fit (p ∷ l) ≡ true → fits p ≡ true
    unfolding all_fit
    first_fits f = and_left (fits p) (all_fit l) f

    pub others-fit : all_fit (p ∷ l) ≡ true → all_fit l ≡ true
    unfolding all_fit
    others-fit f = and_right (fits p) (all_fit l) f

-- what is known of a piece that a record has
pub record IsPiece (a b : ℕ) (x : Entry) (e : ℕ) (p : Piece) : Type 0 where
  pub mapped : 0 < x.target
  pub some-of-it : max a x.source < min b e
  pub is : p ≡ between x (max a x.source) (min b e)

pub piece_is : (a b : ℕ) (x : Entry) (e : ℕ) (p : Piece) → piece_of a b x e ≡ some p → IsPiece a b x e p
piece_is a b x e p h =
    ⊎_elim
    (λ (z : x.target ≡ 0). let c : ◌≡◌ {A = ℕ} 0 1 = cc (piece-zero a b x e z) in absurd (omega arith))
    (λ (z : 0 < x.target).
    ⊎_elim
    (λ (l : max a x.source < min b e).
    let g : ◌≡◌ {A = Piece} p (between x (max a x.source) (min b e)) = cc
    (piece-some a b x e l (λ q. omega arith)) in
    record { mapped = z; some-of-it = l; is = g })
    (λ (l : min b e ≤ max a x.source). let c : ◌≡◌ {A = ℕ} 0 1 = cc (piece-empty a b x e l) in absurd (omega arith))
    (lt-or-le (max a x.source) (min b e)))
    (eq-zero-or-pos x.target)
