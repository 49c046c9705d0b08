-- What the answers say of the addresses, over any translation: the least clash is one, and the sources found are none,
-- one, or the two least.
-- Assumes nothing.
use mathlib.Core.Path.{◌≡◌, refl, sym, ap, ◌∙◌}
use mathlib.Core.Logic.{inl, inr, ⊎_elim}
use Prim.Native.Nat.{ℕ, suc, ◌≤◌, ◌<◌}
use native.Mathlib.Omega.{arith}
use mathlib.Core.Bool.{Bool, true, false, cond}
use mathlib.Core.List.{List, [], ◌∷◌}
use mathlib.Core.Option.{Option, none, some}
use Rattle.lent.specs.Paper.{value, nothing, refused, fitted}
use Rattle.lent.proofs.Logic.{lt-or-le}
use lib.Dec.{leb}
use Rattle.omap.specs.Expand.{range}
use Rattle.clash.specs.Clash.{Pair, one, two, sources_of, least_two}
use Rattle.clash.specs.Demand.{Source, Clash, LeastClash, OneSource, TwoSources}
use Rattle.clash.proofs.Addresses.{no_source, a-source}

fitted-case : (c : Bool) (v t : ℕ) → cond c (value v) (refused 4) ≡ value t → v ≡ t
fitted-case true v t e = cc
fitted-case false v t e = cc

-- the translation that a lookup tells is the unbounded one
pub fitted-is : (o : Option ℕ) (t : ℕ) → fitted o ≡ value t → o ≡ some t
fitted-is none t e = cc
fitted-is (some v) t e = ap some (fitted-case (leb v 4294967295) v t e)

same-pair : (p q : Pair) → p.first ≡ q.first → p.second ≡ q.second → p ≡ q
same-pair p q e g = let h : ◌≡◌ {A = Pair} (record { first = p.first; second = p.second })
    (record { first = q.first; second = q.second }) = rw (e, g) in h

-- two least clashes are one
pub one-least : (f : ℕ → Option ℕ) (a b : ℕ) (p q : Pair) → LeastClash f a b p → LeastClash f a b q → p ≡ q
one-least f a b p q l m =
    ⊎_elim
    (λ (x : p.first < q.first).
    ⊎_elim
    (λ (y : q.first < p.first). absurd (omega arith))
    (λ (y : (q.first ≡ p.first) × (q.second ≤ p.second)). absurd (omega (arith, y.0)))
    (m.least p.first p.second l.is))
    (λ (x : (p.first ≡ q.first) × (p.second ≤ q.second)).
    ⊎_elim
    (λ (y : q.first < p.first). absurd (omega (arith, x.0)))
    (λ (y : (q.first ≡ p.first) × (q.second ≤ p.second)). same-pair p q x.0 (omega (arith, x.1, y.1)))
    (m.least p.first p.second l.is))
    (l.least q.first q.second m.is)

-- two addresses with one target are one, or clash
pub meet-or-clash : (f : ℕ → Option ℕ) (a b t x y : ℕ) → ((v w : ℕ) → Clash f a b v w → ⊥) → Source f a b t x
    → Source f a b t y → x ≡ y
meet-or-clash f a b t x y n v w =
    ⊎_elim
    (λ (l : x < y). absurd (n x y (record
    { from = v.from; apart = l; below = w.below; target = t; first = v.lands; second = w.lands })))
    (λ (l : y ≤ x).
    ⊎_elim
    (λ (m : y < x). absurd (n y x (record
    { from = w.from; apart = m; below = v.below; target = t; first = w.lands; second = v.lands })))
    (λ (m : x ≤ y). omega arith)
    (lt-or-le y x))
    (lt-or-le x y)

-- the sources in order: none, one, or two and more
module _ (f : ℕ → Option ℕ) (a b t : ℕ) where
  abbrev all : List ℕ
  all = sources_of f t (range a b)

  second : (x y : ℕ) (l : List ℕ) → all ≡ x ∷ (y ∷ l) → TwoSources f a b t x y
  second x y l e =
      let r = a-source f a b t x (y ∷ l) e in
      let q = a-source f (suc x) b t y l (sym r.others) in
      let k : suc x ≤ y = q.is.from in
      let j : a ≤ x = r.is.from in
      record {
        first = r.is;
        second = record { from = omega arith; below = q.is.below; lands = q.is.lands };
        apart = k;
        least = λ v w.
            let m : x ≤ v = r.least v w in
            ⊎_elim
            (λ (g : x < v). inr (q.least v (record { from = g; below = w.below; lands = w.lands })))
            (λ (g : v ≤ x). inl (omega arith))
            (lt-or-le x v);
      }

  only : (x : ℕ) → all ≡ x ∷ [] → OneSource f a b t x
  only x e =
      let r = a-source f a b t x [] e in
      record {
        is = r.is;
        only = λ v w.
            let m : x ≤ v = r.least v w in
            ⊎_elim
            (λ (g : x < v). absurd (no_source f (suc x) b t (sym r.others) v
            (record { from = g; below = w.below; lands = w.lands })))
            (λ (g : v ≤ x). omega arith)
            (lt-or-le x v);
      }

  pub told_none : (l : List ℕ) → all ≡ l → least_two l ≡ nothing → (x : ℕ) → Source f a b t x → ⊥
  unfolding least_two
  told_none [] e q x w = no_source f a b t e x w
  told_none (v ∷ []) e q x w = let z : ◌≡◌ {A = ℕ} 0 1 = cc in omega arith
  told_none (v ∷ (u ∷ l)) e q x w = let z : ◌≡◌ {A = ℕ} 0 1 = cc in omega arith

  pub none_told : (l : List ℕ) → all ≡ l → ((x : ℕ) → Source f a b t x → ⊥) → least_two l ≡ nothing
  unfolding least_two
  none_told [] e n = refl
  none_told (v ∷ l) e n = absurd (n v (a-source f a b t v l e).is)

  pub told-one : (l : List ℕ) (x : ℕ) → all ≡ l → least_two l ≡ value (one x) → OneSource f a b t x
  unfolding least_two
  told-one [] x e q = let z : ◌≡◌ {A = ℕ} 0 1 = cc in absurd (omega arith)
  told-one (v ∷ []) x e q = let k : v ≡ x = cc in only x (e ∙ ap (λ (i : ℕ). i ∷ []) k)
  told-one (v ∷ (u ∷ l)) x e q = let z : ◌≡◌ {A = ℕ} 0 1 = cc in absurd (omega arith)

  pub one_told : (l : List ℕ) (x : ℕ) → all ≡ l → OneSource f a b t x → least_two l ≡ value (one x)
  unfolding least_two
  one_told [] x e w = absurd (no_source f a b t e x w.is)
  one_told (v ∷ []) x e w = ap (λ (i : ℕ). value (one i)) (w.only v (only v e).is)
  one_told (v ∷ (u ∷ l)) x e w =
      let r = second v u l e in
      let k : v < u = r.apart in
      absurd (omega (arith, w.only v r.first, w.only u r.second))

  pub told-two : (l : List ℕ) (x y : ℕ) → all ≡ l → least_two l ≡ value (two x y) → TwoSources f a b t x y
  unfolding least_two
  told-two [] x y e q = let z : ◌≡◌ {A = ℕ} 0 1 = cc in absurd (omega arith)
  told-two (v ∷ []) x y e q = let z : ◌≡◌ {A = ℕ} 0 1 = cc in absurd (omega arith)
  told-two (v ∷ (u ∷ l)) x y e q =
      let k : v ≡ x = cc in
      let j : u ≡ y = cc in
      second x y l (e ∙ ap (λ (i : ℕ). i ∷ (u ∷ l)) k ∙ ap (λ (i : ℕ). x ∷ (i ∷ l)) j)

  first-least : (x y v : ℕ) → TwoSources f a b t x y → Source f a b t v → x ≤ v
  first-least x y v r w =
      let k : x < y = r.apart in
      ⊎_elim (λ (e : v ≡ x). omega arith) (λ (e : y ≤ v). omega arith) (r.least v w)

  second-least : (x y v : ℕ) → TwoSources f a b t x y → Source f a b t v → x < v → y ≤ v
  second-least x y v r w l = ⊎_elim (λ (e : v ≡ x). absurd (omega arith)) (λ (e : y ≤ v). e) (r.least v w)

  -- the two least are what they are
  same-two : (v u x y : ℕ) → TwoSources f a b t v u → TwoSources f a b t x y → (v ≡ x) × (u ≡ y)
  same-two v u x y r w =
      let m : v ≤ x = first-least v u x r w.first in
      let n : x ≤ v = first-least x y v w r.first in
      let k : v < u = r.apart in
      let j : x < y = w.apart in
      let p : u ≤ y = second-least v u y r w.second (omega arith) in
      let q : y ≤ u = second-least x y u w r.second (omega arith) in
      (omega arith, omega arith)

  pub two-told : (l : List ℕ) (x y : ℕ) → all ≡ l → TwoSources f a b t x y → least_two l ≡ value (two x y)
  unfolding least_two
  two-told [] x y e w = absurd (no_source f a b t e x w.first)
  two-told (v ∷ []) x y e w =
      let r = only v e in
      let k : x < y = w.apart in
      absurd (omega (arith, r.only x w.first, r.only y w.second))
  two-told (v ∷ (u ∷ l)) x y e w =
      let r = second v u l e in
      let q = same-two v u x y r w in
      ap (λ (i : ℕ). value (two i u)) q.0 ∙ ap (λ (i : ℕ). value (two x i)) q.1
