-- In a smaller window the pieces fit, and the targets of a window's addresses fit with its pieces.
-- Assumes nothing.
use mathlib.Core.Path.{◌≡◌, refl, ◌∙◌}
use mathlib.Core.Logic.{⊎_elim}
use Prim.Native.Nat.{ℕ, ◌+◌, ◌-◌, ◌≤◌, ◌<◌, max, min}
use native.Mathlib.Nat.{eq-zero-or-pos}
use native.Mathlib.Omega.{arith}
use mathlib.Core.Bool.{true}
use mathlib.Core.List.{List, [], ◌∷◌}
use Rattle.lent.specs.Words.{put}
use Rattle.lent.proofs.Logic.{lt-or-le}
use Rattle.omap.specs.declared.lookups.Entry.{Entry}
use Rattle.omap.specs.Window.{next_of, piece_of, pieces}
use Rattle.omap.specs.Output.{all_fit}
use Rattle.omap.specs.Window.{Piece}
use Rattle.omap.proofs.Pieces.{between, piece-empty, piece-zero, piece-some, fits-target, fits-less, fit-more}
use Rattle.omap.proofs.Pieces.{first_fits, others-fit}
use Rattle.clash.specs.Shared.{sources_in}
use Rattle.clash.proofs.Runs.{source-past}

-- a piece's end follows from the window's end alone
ends : (lo hi source target : ℕ) → source ≤ lo → lo < hi → lo - source + target + (hi - lo) ≡ hi - source + target
ends lo hi source target h l = omega arith

no-later : (a b c d source e target : ℕ) → a ≤ c → d ≤ b → max c source < min d e
    → max c source - source + target + (min d e - max c source) ≤ max a source - source + target +
    (min b e - max a source)
no-later a b c d source e target h k l =
    let m : max a source < min b e = omega arith in
    let z : min d e ≤ min b e = omega arith in
    rw (
      ends (max c source) (min d e) source target (omega arith) l,
      ends (max a source) (min b e) source target
          (omega arith) m,
    ) (omega arith)

-- a ≤ c and d ≤ b: what fits in a..b fits in c..d
module _ (a b c d : ℕ) (h : a ≤ c) (k : d ≤ b) where
  module _ (x : Entry) (e : ℕ) (l m : List Piece) (f : all_fit (put (piece_of a b x e) l) ≡ true)
      (g : all_fit l ≡ true → all_fit m ≡ true) where
    unmapped : x.target ≡ 0 → all_fit (put (piece_of c d x e) m) ≡ true
    unfolding put
    unmapped z = rw (piece-zero c d x e z) (g (rw (piece-zero a b x e z) at f))

    module _ (z : 0 < x.target) where
      -- the record's piece of the larger window
      abbrev large : Piece
      large = between x (max a x.source) (min b e)

      with-large : max a x.source < min b e → all_fit (large ∷ l) ≡ true
      unfolding put
      with-large q = rw (piece-some a b x e q (λ n. omega arith)) at f

      outside : min d e ≤ max c x.source → all_fit (put (piece_of c d x e) m) ≡ true
      unfolding put
      outside w =
          ⊎_elim
          (λ (q : max a x.source < min b e). rw (piece-empty c d x e w) (g (others-fit large l (with-large q))))
          (λ (q : min b e ≤ max a x.source). rw (piece-empty c d x e w) (g (rw (piece-empty a b x e q) at f)))
          (lt-or-le (max a x.source) (min b e))

      inside : max c x.source < min d e → all_fit (put (piece_of c d x e) m) ≡ true
      unfolding put
      inside w =
          let here = with-large (omega arith) in
          let small = between x (max c x.source) (min d e) in
          let fit = fits-less large (first_fits large l here) small
          (no-later a b c d x.source e x.target h k w) in
          rw (piece-some c d x e w (λ n. omega arith)) (fit-more small m fit ∙ g (others-fit large l here))

  pub smaller-fits : (l : List Entry) → all_fit (pieces a b l) ≡ true → all_fit (pieces c d l) ≡ true
  unfolding pieces all_fit
  smaller-fits [] f = refl
  smaller-fits (x ∷ l) f =
      let e = next_of l in
      ⊎_elim
      (λ (z : x.target ≡ 0). unmapped x e (pieces a b l) (pieces c d l) f (smaller-fits l) z)
      (λ (z : 0 < x.target).
      ⊎_elim
      (λ (w : max c x.source < min d e). inside x e (pieces a b l) (pieces c d l) f (smaller-fits l) z w)
      (λ (w : min d e ≤ max c x.source). outside x e (pieces a b l) (pieces c d l) f (smaller-fits l) z w)
      (lt-or-le (max c x.source) (min d e)))
      (eq-zero-or-pos x.target)

-- where pieces fit, a target of theirs does
pub target_fits : (l : List Piece) (t y : ℕ) (ys : List ℕ) → all_fit l ≡ true → sources_in t l ≡ y ∷ ys → t ≤ 4294967295
unfolding sources_in put
target_fits [] t y ys f e = let z : ◌≡◌ {A = ℕ} 0 1 = cc in absurd (omega arith)
target_fits (p ∷ l) t y ys f e =
    ⊎_elim
    (λ (m : t < p.to + p.size). fits-target p (first_fits p l f) t m)
    (λ (m : p.to + p.size ≤ t). target_fits l t y ys (others-fit p l f) (rw (source-past t p m) at e))
    (lt-or-le t (p.to + p.size))
