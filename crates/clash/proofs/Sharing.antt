-- The first target that some pieces share, one piece at a time.
-- Assumes nothing.
use mathlib.Core.Path.{◌≡◌, refl, ap, ◌∙◌}
use Prim.Native.Nat.{ℕ, zero, suc, ◌+◌, ◌-◌, ◌≤◌, ◌<◌}
use native.Mathlib.Omega.{arith}
use mathlib.Core.List.{List, [], ◌∷◌}
use mathlib.Core.Option.{Option, none, some}
use Rattle.lent.specs.Words.{or_else, put}
use Rattle.omap.specs.Window.{Piece}
use Rattle.clash.specs.Clash.{Pair, paired_or}
use Rattle.clash.specs.Shared.{source_in, sources_in, first_shared}
use Rattle.clash.proofs.Runs.{source-below, source-past, source-here}

pub or_nothing : {A : Type 0} (o : Option A) → or_else o none ≡ o
unfolding or_else
or_nothing none = refl
or_nothing (some v) = refl

pub shared-nothing : (n t : ℕ) → first_shared [] t n ≡ none
unfolding first_shared sources_in paired_or
shared-nothing zero t = refl
shared-nothing (suc n) t = shared-nothing n (suc t)

pair-in : (t n : ℕ) (ys : List ℕ) (o : Option Pair) (m : Pair)
    → (o ≡ some m → (suc t ≤ m.first) × (m.first < suc t + n))
    → paired_or t ys o ≡ some m → (t ≤ m.first) × (m.first < t + suc n)
unfolding paired_or
pair-in t n [] o m h e = let q = h e in (omega arith, omega arith)
pair-in t n (y ∷ ys) o m h e =
    let q : ◌≡◌ {A = Pair} (record { first = t; second = y }) m = cc in
    let z : t ≡ m.first = ap (λ (k : Pair). k.first) q in
    (omega arith, omega arith)

-- the target found is one of those searched
pub shared-in : (l : List Piece) (n t : ℕ) (m : Pair) → first_shared l t n ≡ some m → (t ≤ m.first) × (m.first < t + n)
unfolding first_shared
shared-in l zero t m e = let z : ◌≡◌ {A = ℕ} 0 1 = cc in absurd (omega arith)
shared-in l (suc n) t m e = pair-in t n (sources_in t l) (first_shared l (suc t) n) m (shared-in l n (suc t) m) e

paired-or : (t : ℕ) (ys : List ℕ) (o c : Option Pair) → paired_or t ys (or_else o c) ≡ or_else (paired_or t ys o) c
unfolding paired_or or_else
paired-or t [] o c = refl
paired-or t (y ∷ ys) o c = refl

module _ (p : Piece) (l : List Piece) where
  -- a piece that has no source of the targets searched plays no part
  shared_same : (n t : ℕ) → ((v : ℕ) → t ≤ v → v < t + n → source_in v p ≡ none) → first_shared
      (p ∷ l) t n ≡ first_shared l t n
  unfolding first_shared sources_in put
  shared_same zero t h = refl
  shared_same (suc n) t h =
      rw (h t (omega arith) (omega arith), shared_same n (suc t) (λ v m q. h v (omega arith) (omega arith)))

  -- it has one of the k-th, and of none before it
  shared-cut : (k n t y : ℕ) → ((v : ℕ) → t ≤ v → v < t + k → source_in v p ≡ none) → source_in (t + k) p ≡ some y
      → first_shared (p ∷ l) t (k + suc n) ≡ or_else (first_shared l t k) (some (record { first = t + k; second = y }))
  unfolding first_shared sources_in put paired_or or_else
  shared-cut zero n t y h e =
      let z : zero + suc n ≡ suc n = omega arith in
      let q : t + zero ≡ t = omega arith in
      rw (z, q, rw q at e)
  shared-cut (suc k) n t y h e =
      let z : suc k + suc n ≡ suc (k + suc n) = omega arith in
      let q : t + suc k ≡ suc t + k = omega arith in
      rw (z, h t (omega arith) (omega arith), q)
      (ap (paired_or t (sources_in t l)) (shared-cut k n (suc t) y (λ v m u. h v (omega arith) (omega arith)) (rw q at e))
      ∙ paired-or t (sources_in t l) (first_shared l (suc t) k) (some (record { first = suc t + k; second = y })))

  module _ (from stop : ℕ) where
    pub shared-high : stop ≤ p.to → first_shared (p ∷ l) from (stop - from) ≡ first_shared l from (stop - from)
    shared-high h = shared_same (stop - from) from (λ v m q. source-below v p (omega arith))

    pub shared-low : p.to + p.size ≤ from → first_shared (p ∷ l) from (stop - from) ≡ first_shared l from (stop - from)
    shared-low h = shared_same (stop - from) from (λ v m q. source-past v p (omega arith))

    module _ (y : ℕ) (k : ℕ) where
      shared_at : from ≤ k → k < stop → ((v : ℕ) → from ≤ v → v < k → source_in v p ≡ none) → source_in k p ≡ some y
          → first_shared (p ∷ l) from (stop - from) ≡ or_else (first_shared l from (k - from))
          (some (record { first = k; second = y }))
      shared_at h m none_before e =
          let n : stop - from ≡ (k - from) + suc (stop - k - 1) = omega arith in
          let q : from + (k - from) ≡ k = omega arith in
          let c : first_shared (p ∷ l) from ((k - from) + suc (stop - k - 1)) ≡ or_else (first_shared l from (k - from))
          (some (record { first = from + (k - from); second = y }))
          = shared-cut (k - from) (stop - k - 1) from y (λ v u z. none_before v u (omega arith)) (rw q e) in
          ap (first_shared (p ∷ l) from) n ∙ c
          ∙ ap (λ (i : ℕ). or_else (first_shared l from (k - from)) (some (record { first = i; second = y }))) q

    -- the piece begins among the targets
    pub shared-here : from ≤ p.to → p.to < stop → 0 < p.size
        → first_shared (p ∷ l) from (stop - from) ≡ or_else (first_shared l from (p.to - from))
        (some (record { first = p.to; second = p.at }))
    shared-here h m z =
        let e : p.at + (p.to - p.to) ≡ p.at = omega arith in
        shared_at p.at p.to h m (λ v u q. source-below v p q)
        (source-here p.to p (omega arith) (omega arith) ∙ ap some e)

    -- the piece holds the first of them
    pub shared-first : from < stop → p.to ≤ from → from < p.to + p.size
        → first_shared (p ∷ l) from (stop - from) ≡ some (record { first = from; second = p.at + (from - p.to) })
    unfolding first_shared or_else
    shared-first m h z =
        let e : from - from ≡ 0 = omega arith in
        shared_at (p.at + (from - p.to)) from (omega arith) m (λ v u q. absurd (omega arith)) (source-here from p h z)
        ∙ ap (λ (i : ℕ). or_else (first_shared l from i)
        (some (record { first = from; second = p.at + (from - p.to) }))) e
