-- What the sources of a target and the first clash say of the addresses of a window, one by one. Over any translation
-- f.
-- Assumes nothing.
use mathlib.Core.Path.{◌≡◌, refl, sym, ap, ◌∙◌, subst}
use mathlib.Core.Logic.{inl, inr, ⊎_elim}
use Prim.Native.Nat.{ℕ, zero, suc, ◌+◌, ◌-◌, ◌≤◌, ◌<◌}
use native.Mathlib.Omega.{arith}
use native.Mathlib.Nat.{eq-or-lt_of_le}
use mathlib.Core.Bool.{true, false}
use mathlib.Core.List.{List, [], ◌∷◌}
use mathlib.Core.Option.{Option, none, some}
use borrow.Author.Tests.{eq-eqb, eqb-true}
use Rattle.lent.proofs.Logic.{which}
use Rattle.omap.specs.Expand.{up_from, range}
use Rattle.clash.specs.Clash.{lands_on, sources_of, sharing, Pair, paired_or, first_clash}
use Rattle.clash.specs.Demand.{Source, Clash, LeastClash}

lands-is : (o : Option ℕ) (t : ℕ) → lands_on o t ≡ true → o ≡ some t
unfolding lands_on
lands-is none t e = cc
lands-is (some v) t e = ap some (eqb-true v t e)

lands-not : (o : Option ℕ) (t : ℕ) → lands_on o t ≡ false → o ≡ some t → ⊥
unfolding lands_on
lands-not none t e q = let z : ◌≡◌ {A = ℕ} 0 1 = cc in omega arith
lands-not (some v) t e q =
    let w : v ≡ t = cc in
    let z : ◌≡◌ {A = ℕ} 0 1 = cc (eq-eqb v t w) in
    omega arith

some_same : (g h : ℕ) → some g ≡ some h → g ≡ h
some_same g h q = cc

module _ (f : ℕ → Option ℕ) (t : ℕ) where
  abbrev S : ℕ → ℕ → List ℕ
  S a n = sources_of f t (up_from a n)

  here : (a n : ℕ) → f a ≡ some t → S a (suc n) ≡ a ∷ S (suc a) n
  unfolding sources_of up_from lands_on
  here a n e = rw (e, eq-eqb t t refl)

  not-here : (a n : ℕ) → lands_on (f a) t ≡ false → S a (suc n) ≡ S (suc a) n
  unfolding sources_of up_from
  not-here a n e = rw e

  later : (a n x : ℕ) → (f a ≡ some t → ⊥) → Source f a (a + suc n) t x → Source f (suc a) (suc a + n) t x
  later a n x h w =
      ⊎_elim
      (λ (e : a ≡ x). absurd (h (ap f e ∙ w.lands)))
      (λ (l : a < x). record { from = l; below = let k : x < a + suc n = w.below in omega arith; lands = w.lands })
      (eq-or-lt_of_le w.from)

  -- no sources: no address goes to t
  sources-none : (n a : ℕ) → S a n ≡ [] → (x : ℕ) → Source f a (a + n) t x → ⊥
  sources-none zero a e x w = let l : a ≤ x = w.from in let k : x < a + zero = w.below in omega arith
  sources-none (suc n) a e x w =
      ⊎_elim
      (λ (q : lands_on (f a) t ≡ true). let c : a ∷ S (suc a) n ≡ [] = sym (here a n (lands-is (f a) t q))
      ∙ e in let z : ◌≡◌ {A = ℕ} 0 1 = cc in omega arith)
      (λ (q : lands_on (f a) t ≡ false). sources-none n (suc a) (sym (not-here a n q) ∙ e) x
      (later a n x (lands-not (f a) t q) w))
      (which (lands_on (f a) t))

  -- the first source is the least address that goes to t, and the others are the sources past it
  pub record First (a b y : ℕ) (ys : List ℕ) : Type 0 where
    pub is : Source f a b t y
    pub least : (x : ℕ) → Source f a b t x → y ≤ x
    pub others : ys ≡ S (suc y) (b - suc y)

  sources-first : (n a y : ℕ) (ys : List ℕ) → S a n ≡ y ∷ ys → First a (a + n) y ys
  unfolding sources_of up_from
  sources-first zero a y ys e = let z : ◌≡◌ {A = ℕ} 0 1 = cc in absurd (omega arith)
  sources-first (suc n) a y ys e =
      ⊎_elim
      (λ (q : lands_on (f a) t ≡ true).
      let g : f a ≡ some t = lands-is (f a) t q in
      let c : a ∷ S (suc a) n ≡ y ∷ ys = sym (here a n g) ∙ e in
      let u : a ≡ y = cc in
      let v : S (suc a) n ≡ ys = cc in
      let k : n ≡ a + suc n - suc y = omega arith in
      record {
        is = record { from = omega arith; below = omega arith; lands = ap f (sym u) ∙ g };
        least = λ x w. let l : a ≤ x = w.from in omega arith;
        others = sym v ∙ ap (λ (i : ℕ). S (suc i) n) u ∙ ap (S (suc y)) k;
      })
      (λ (q : lands_on (f a) t ≡ false).
      let h : f a ≡ some t → ⊥ = lands-not (f a) t q in
      let r = sources-first n (suc a) y ys (sym (not-here a n q) ∙ e) in
      let k : suc a + n ≡ a + suc n = omega arith in
      record {
        is = record {
          from = let l : suc a ≤ y = r.is.from in omega arith;
          below = let l : y < suc a
              + n = r.is.below in omega arith;
          lands = r.is.lands;
        };
        least = λ x w. r.least x (later a n x h w);
        others = r.others ∙ ap (λ (i : ℕ). S (suc y) (i - suc y)) k;
      })
      (which (lands_on (f a) t))

-- those that share a translation with another
module _ (f : ℕ → Option ℕ) where
  shared-none : (n a : ℕ) (o : Option ℕ) → sharing f o (up_from a n) ≡ [] → (t : ℕ) → o ≡ some t → (y : ℕ) → Source f a
      (a + n) t y → ⊥
  shared-none n a none e t q y w = let z : ◌≡◌ {A = ℕ} 0 1 = cc in omega arith
  shared-none n a (some v) e t q y w =
      let k : v ≡ t = cc in
      sources-none f t n a (ap (λ (i : ℕ). sources_of f i (up_from a n)) (sym k) ∙ e) y w

  record Shared (a b : ℕ) (o : Option ℕ) (y : ℕ) : Type 0 where
    target : ℕ
    goes : o ≡ some target
    is : Source f a b target y
    least : (x : ℕ) → Source f a b target x → y ≤ x

  shared-first : (n a : ℕ) (o : Option ℕ) (y : ℕ) (ys : List ℕ) → sharing f o (up_from a n) ≡ y ∷ ys → Shared a
      (a + n) o y
  shared-first n a none y ys e = let z : ◌≡◌ {A = ℕ} 0 1 = cc in absurd (omega arith)
  shared-first n a (some t) y ys e =
      let r = sources-first f t n a y ys e in
      record { target = t; goes = refl; is = r.is; least = r.least }

  -- a clash of the addresses from a on begins at a, or past it
  clash-after : (a n x y : ℕ) → (a < x) → Clash f a (a + suc n) x y → Clash f (suc a) (suc a + n) x y
  clash-after a n x y l c =
      record {
        from = l;
        apart = c.apart;
        below = let k : y < a + suc n = c.below in omega arith;
        target = c.target;
        first = c.first;
        second = c.second;
      }

  partner : (a n x y : ℕ) (c : Clash f a (a + suc n) x y) → a ≡ x → Source f (suc a) (suc a + n) c.target y
  partner a n x y c e =
      let l : x < y = c.apart in
      let k : y < a + suc n = c.below in
      record { from = omega arith; below = omega arith; lands = c.second }

  none-step : (x : ℕ) (ys : List ℕ) (later : Option Pair) → paired_or x ys later ≡ none → (ys ≡ []) × (later ≡ none)
  unfolding paired_or
  none-step x [] later e = (refl, e)
  none-step x (y ∷ ys) later e = ((cc), (cc))

  -- no clash found: there is none
  clash-none : (n a : ℕ) → first_clash f (up_from a n) ≡ none → (x y : ℕ) → Clash f a (a + n) x y → ⊥
  unfolding first_clash up_from
  clash-none zero a e x y c = let l : a ≤ x = c.from in let m : x < y = c.apart in let k : y < a
      + zero = c.below in omega arith
  clash-none (suc n) a e x y c =
      let q = none-step a (sharing f (f a) (up_from (suc a) n)) (first_clash f (up_from (suc a) n)) e in
      ⊎_elim
      (λ (z : a ≡ x). shared-none n (suc a) (f a) q.0 c.target (ap f z ∙ c.first) y (partner a n x y c z))
      (λ (l : a < x). clash-none n (suc a) q.1 x y (clash-after a n x y l c))
      (eq-or-lt_of_le c.from)

  -- the clash found is the least
  some-step : (n a : ℕ) (p : Pair) → (first_clash f (up_from (suc a) n) ≡ some p → LeastClash f (suc a) (suc a + n) p)
      → (ys : List ℕ) → sharing f (f a) (up_from (suc a) n) ≡ ys → paired_or a ys
      (first_clash f (up_from (suc a) n)) ≡ some p → LeastClash f a (a + suc n) p
  unfolding paired_or
  some-step n a p ih [] s e =
      let r = ih e in
      let c = r.is in
      record {
        is = record {
          from = let l : suc a ≤ p.first = c.from in omega arith;
          apart = c.apart;
          below = let k : p.second < suc a + n = c.below in omega arith;
          target = c.target;
          first = c.first;
          second = c.second;
        };
        least = λ x y w.
            ⊎_elim
            (λ (z : a ≡ x). absurd (shared-none n (suc a) (f a) s w.target (ap f z ∙ w.first) y
            (partner a n x y w z)))
            (λ (l : a < x). r.least x y (clash-after a n x y l w))
            (eq-or-lt_of_le w.from);
      }
  some-step n a p ih (v ∷ ys) s e =
      let r = shared-first n (suc a) (f a) v ys s in
      let k : ◌≡◌ {A = Pair} (record { first = a; second = v }) p = cc in
      let i : a ≡ p.first = ap (λ (q : Pair). q.first) k in
      let j : v ≡ p.second = ap (λ (q : Pair). q.second) k in
      let l : suc a ≤ v = r.is.from in
      let m : v < suc a + n = r.is.below in
      record {
        is = record {
          from = omega arith;
          apart = omega arith;
          below = omega arith;
          target = r.target;
          first = ap f (sym i) ∙ r.goes;
          second = ap f (sym j) ∙ r.is.lands;
        };
        least = λ x y w.
            ⊎_elim
            (λ (z : a ≡ x).
            let u : r.target ≡ w.target = some_same r.target w.target (sym r.goes ∙ ap f z ∙ w.first) in
            inr (
              sym i ∙ z,
              omega (
                arith,
                r.least y
                    (subst (λ (g : ℕ). Source f (suc a) (suc a + n) g y) (sym u) (partner a n x y w z)),
              ),
            ))
            (λ (g : a < x). inl (omega arith))
            (eq-or-lt_of_le w.from);
      }

  clash-least : (n a : ℕ) (p : Pair) → first_clash f (up_from a n) ≡ some p → LeastClash f a (a + n) p
  unfolding first_clash up_from
  clash-least zero a p e = let z : ◌≡◌ {A = ℕ} 0 1 = cc in absurd (omega arith)
  clash-least (suc n) a p e = some-step n a p (clash-least n (suc a) p) (sharing f (f a) (up_from (suc a) n)) refl e

-- the same of a window a..b
module _ (f : ℕ → Option ℕ) (a b : ℕ) where
  in-run : (t x : ℕ) → Source f a b t x → Source f a (a + (b - a)) t x
  in-run t x w =
      let l : a ≤ x = w.from in
      let k : x < b = w.below in
      record { from = l; below = omega arith; lands = w.lands }

  of-run : (t x : ℕ) → Source f a (a + (b - a)) t x → Source f a b t x
  of-run t x w =
      let l : a ≤ x = w.from in
      let k : x < a + (b - a) = w.below in
      record { from = l; below = omega arith; lands = w.lands }

  run-clash : (x y : ℕ) → Clash f a b x y → Clash f a (a + (b - a)) x y
  run-clash x y c =
      let l : a ≤ x = c.from in
      let m : x < y = c.apart in
      let k : y < b = c.below in
      record { from = l; apart = m; below = omega arith; target = c.target; first = c.first; second = c.second }

  clash-run : (x y : ℕ) → Clash f a (a + (b - a)) x y → Clash f a b x y
  clash-run x y c =
      let l : a ≤ x = c.from in
      let m : x < y = c.apart in
      let k : y < a + (b - a) = c.below in
      record { from = l; apart = m; below = omega arith; target = c.target; first = c.first; second = c.second }

  pub no-clash : first_clash f (range a b) ≡ none → (x y : ℕ) → Clash f a b x y → ⊥
  no-clash e x y c = clash-none f (b - a) a e x y (run-clash x y c)

  pub a-clash : (p : Pair) → first_clash f (range a b) ≡ some p → LeastClash f a b p
  a-clash p e =
      let r = clash-least f (b - a) a p e in
      record { is = clash-run p.first p.second r.is; least = λ x y c. r.least x y (run-clash x y c) }

  module _ (t : ℕ) where
    pub no_source : sources_of f t (range a b) ≡ [] → (x : ℕ) → Source f a b t x → ⊥
    no_source e x w = sources-none f t (b - a) a e x (in-run t x w)

    pub a-source : (y : ℕ) (ys : List ℕ) → sources_of f t (range a b) ≡ y ∷ ys → First f t a b y ys
    a-source y ys e =
        let r = sources-first f t (b - a) a y ys e in
        let k : y < a + (b - a) = r.is.below in
        let n : a + (b - a) - suc y ≡ b - suc y = omega arith in
        record {
          is = of-run t y r.is;
          least = λ x w. r.least x (in-run t x w);
          others = r.others
              ∙ ap (λ (i : ℕ). sources_of f t (up_from (suc y) i)) n;
        }
