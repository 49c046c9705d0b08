-- What the clash check and the way back answer, in the words of specs/Demand, over the unbounded single translation:
-- the laws behind
-- demand 3. For every table and window that are not refused 1, 2, 3 and 4.
-- Assumes nothing.
use mathlib.Core.Path.{◌≡◌, refl, sym, ap, ◌∙◌}
use mathlib.Core.Logic.{◌⊎◌, inl, inr, ⊎_elim}
use Prim.Native.Nat.{ℕ, ◌≤◌, ◌<◌}
use native.Mathlib.Omega.{arith}
use mathlib.Core.Bool.{Bool, true, false, cond}
use mathlib.Core.List.{List, [], ◌∷◌}
use mathlib.Core.Option.{Option, none, some}
use Rattle.lent.specs.Order.{rising, omap_fault}
use Rattle.lent.specs.Paper.{value, nothing, first_fault, unless}
use Rattle.omap.specs.Records.{records, single}
use Rattle.omap.specs.Lookup.{lookup_spec}
use Rattle.omap.specs.Window.{pieces}
use Rattle.omap.specs.Output.{all_fit, sum_fault, window_fault}
use Rattle.omap.specs.Expand.{range}
use Rattle.omap.proofs.Last.{sources-keys, in_order}
use borrow.Author.Tests.{le-leb}
use Rattle.clash.specs.Clash.{Pair, one, two, sources_of, first_clash, least_two, clash_spec, back_spec}
use Rattle.clash.specs.Demand.{Source, Clash, LeastClash, OneSource, TwoSources, Reported}
use Rattle.clash.proofs.LeastPair.{no_pieces}
use Rattle.clash.proofs.Runs.{sources-by-pieces}
use Rattle.clash.proofs.Addresses.{no-clash, a-clash, no_source}
use Rattle.clash.proofs.Smaller.{smaller-fits, target_fits}
use Rattle.clash.proofs.Told.{one-least, meet-or-clash, told_none, none_told, told-one, one_told, told-two}
use Rattle.clash.proofs.Told.{two-told, fitted-is}

no-fault : (f g : Option ℕ) → first_fault f g ≡ none → (f ≡ none) × (g ≡ none)
no-fault none g e = (refl, e)
no-fault (some n) g e = ((cc), (cc))

fits_all : (t : Bool) → ◌≡◌ {A = Option ℕ} (cond t none (some 4)) none → t ≡ true
fits_all true e = refl
fits_all false e = cc

-- a window that is not refused: its table is not, and its pieces fit
pub faultless : (s : List ℕ) (a b : ℕ) → window_fault true s a b ≡ none
    → (omap_fault s ≡ none) × (all_fit (pieces a b (records s)) ≡ true)
unfolding window_fault sum_fault
faultless s a b e =
    let q = no-fault (omap_fault s) (cond (all_fit (pieces a b (records s))) none (some 4)) e in
    (q.0, fits_all (all_fit (pieces a b (records s))) q.1)

pub fault-free : (s : List ℕ) (a b : ℕ) → omap_fault s ≡ none → all_fit (pieces a b (records s)) ≡ true
    → window_fault true s a b ≡ none
unfolding window_fault sum_fault
fault-free s a b g f = rw (g, f)

given : (f : Option ℕ) (v w : Option Pair) → unless f (value v) ≡ value w → f ≡ none
given none v w e = refl
given (some n) v w e = cc

-- the check answers only for such tables and windows
pub window-good : (s : List ℕ) (a b : ℕ) (p : Option Pair) → clash_spec s a b ≡ value p → window_fault true s a b ≡ none
unfolding clash_spec
window-good s a b p e = given (window_fault true s a b) (first_clash (single (records s)) (range a b)) p e

module _ (s : List ℕ) (a b : ℕ) (good : window_fault true s a b ≡ none) where
  -- the single translation of demand 2
  abbrev f : ℕ → Option ℕ
  f = single (records s)

  -- an address of the window lands on t exactly if its single translation is told as t
  pub lookup-tells : b ≤ 4294967295 → (t x : ℕ) → Source f a b t x → lookup_spec true s x ≡ value t
  unfolding lookup_spec
  lookup-tells w t x v = rw (
    (faultless s a b good).0,
    v.lands,
    le-leb t 4294967295
        (lands-fit (sources_of f t (range a b)) refl),
  )
    where
      lands-fit : (l : List ℕ) → sources_of f t (range a b) ≡ l → t ≤ 4294967295
      lands-fit [] e = absurd (no_source f a b t e x v)
      lands-fit (y ∷ ys) e =
          target_fits (pieces a b (records s)) t y ys (faultless s a b good).1
          (sym (sources-by-pieces a b (records s) (ap rising (sources-keys s) ∙ in_order s (faultless s a b good).0)
          (omega arith) t) ∙ e)

  pub lookup-told : (t x : ℕ) → a ≤ x → x < b → lookup_spec true s x ≡ value t → Source f a b t x
  unfolding lookup_spec
  lookup-told t x h k e = record { from = h; below = k; lands = fitted-is (f x) t (rw (faultless s a b good).0 at e) }

  clash-is : clash_spec s a b ≡ value (first_clash f (range a b))
  unfolding clash_spec
  clash-is = rw good

  back_is : (t : ℕ) → back_spec s a b t ≡ least_two (sources_of f t (range a b))
  unfolding back_spec
  back_is t = rw good

  found : (o : Option Pair) → clash_spec s a b ≡ value o → first_clash f (range a b) ≡ o
  found o e = let q : value (first_clash f (range a b)) ≡ value o = sym clash-is ∙ e in cc

  answered : (o : Option Pair) → first_clash f (range a b) ≡ o → (clash_spec s a b ≡ value none) ⊎ Reported s a b
  answered none e = inl (clash-is ∙ ap value e)
  answered (some p) e = inr (record { pair = p; is = clash-is ∙ ap value e })

  -- it says "single", or reports a pair
  pub single-or-pair : (clash_spec s a b ≡ value none) ⊎ Reported s a b
  single-or-pair = answered (first_clash f (range a b)) refl

  -- "single": no two different addresses of the window share a translation
  pub single-is : clash_spec s a b ≡ value none → (t x y : ℕ) → Source f a b t x → Source f a b t y → x ≡ y
  single-is e t x y v w = meet-or-clash f a b t x y (no-clash f a b (found none e)) v w

  -- a pair reported clashes, and is the least of all that do
  pub pair_is : (p : Pair) → clash_spec s a b ≡ value (some p) → LeastClash f a b p
  pair_is p e = a-clash f a b p (found (some p) e)

  -- two different addresses share a translation: a pair is reported
  pub is-reported : (x y : ℕ) → Clash f a b x y → Reported s a b
  is-reported x y c =
      ⊎_elim (λ (e : clash_spec s a b ≡ value none). absurd (no-clash f a b (found none e) x y c))
      (λ (r : Reported s a b). r) single-or-pair

  -- the least of all that clash: it is reported
  pub is-pair : (p : Pair) → LeastClash f a b p → clash_spec s a b ≡ value (some p)
  is-pair p l =
      let r = is-reported p.first p.second l.is in
      r.is ∙ ap (λ (q : Pair). value (some q)) (one-least f a b r.pair p (pair_is r.pair r.is) l)

  -- no two different addresses share a translation: "single"
  pub is-single : ((t x y : ℕ) → Source f a b t x → Source f a b t y → x ≡ y) → clash_spec s a b ≡ value none
  is-single n =
      ⊎_elim
      (λ (e : clash_spec s a b ≡ value none). e)
      (λ (r : Reported s a b).
      let c = (pair_is r.pair r.is).is in
      let l : r.pair.first < r.pair.second = c.apart in
      let j : a ≤ r.pair.first = c.from in
      let k : r.pair.second < b = c.below in
      absurd (omega (
        arith,
        n c.target r.pair.first r.pair.second
            (record { from = j; below = omega arith; lands = c.first })
            (record { from = omega arith; below = k; lands = c.second }),
      )))
      single-or-pair

  -- going back from t: none, exactly if no address of the window lands on t
  module _ (t : ℕ) where
    pub back_none : back_spec s a b t ≡ nothing → (x : ℕ) → Source f a b t x → ⊥
    back_none e = told_none f a b t (sources_of f t (range a b)) refl (sym (back_is t) ∙ e)

    pub none-back : ((x : ℕ) → Source f a b t x → ⊥) → back_spec s a b t ≡ nothing
    none-back n = back_is t ∙ none_told f a b t (sources_of f t (range a b)) refl n

    -- one source, exactly if x is the one address that lands on t
    pub back_one : (x : ℕ) → back_spec s a b t ≡ value (one x) → OneSource f a b t x
    back_one x e = told-one f a b t (sources_of f t (range a b)) x refl (sym (back_is t) ∙ e)

    pub one-back : (x : ℕ) → OneSource f a b t x → back_spec s a b t ≡ value (one x)
    one-back x w = back_is t ∙ one_told f a b t (sources_of f t (range a b)) x refl w

    -- two sources, exactly if they are the two least that land on t
    pub back-two : (x y : ℕ) → back_spec s a b t ≡ value (two x y) → TwoSources f a b t x y
    back-two x y e = told-two f a b t (sources_of f t (range a b)) x y refl (sym (back_is t) ∙ e)

    pub two_back : (x y : ℕ) → TwoSources f a b t x y → back_spec s a b t ≡ value (two x y)
    two_back x y w = back_is t ∙ two-told f a b t (sources_of f t (range a b)) x y refl w

    -- there is no other answer
    pub record BackOne : Type 0 where
      pub source : ℕ
      pub is : back_spec s a b t ≡ value (one source)

    pub record BackTwo : Type 0 where
      pub source : ℕ
      pub next : ℕ
      pub is : back_spec s a b t ≡ value (two source next)

    by-sources : (l : List ℕ) → sources_of f t (range a b) ≡ l → (back_spec s a b t ≡ nothing) ⊎ (BackOne ⊎ BackTwo)
    unfolding least_two
    by-sources [] e = inl (back_is t ∙ ap least_two e)
    by-sources (x ∷ []) e = inr (inl (record { source = x; is = back_is t ∙ ap least_two e }))
    by-sources (x ∷ (y ∷ l)) e = inr (inr (record { source = x; next = y; is = back_is t ∙ ap least_two e }))

    pub back-answers : (back_spec s a b t ≡ nothing) ⊎ (BackOne ⊎ BackTwo)
    back-answers = by-sources (sources_of f t (range a b)) refl

    -- in a window that is single, going back yields none or the one source, and an address that lands on t is that one
    module _ (e : clash_spec s a b ≡ value none) where
      pub single-back : (back_spec s a b t ≡ nothing) ⊎ BackOne
      single-back =
          ⊎_elim
          (λ (n : back_spec s a b t ≡ nothing). inl n)
          (λ (m : BackOne ⊎ BackTwo).
          ⊎_elim
          (λ (o : BackOne). inr o)
          (λ (w : BackTwo).
          let r = back-two w.source w.next w.is in
          let l : w.source < w.next = r.apart in
          absurd (omega (arith, single-is e t w.source w.next r.first r.second)))
          m)
          back-answers

      pub source-back : (x : ℕ) → Source f a b t x → back_spec s a b t ≡ value (one x)
      source-back x w = one-back x (record { is = w; only = λ v u. single-is e t v x u w })

-- the empty window is single, and going back in it gives none
module _ (s : List ℕ) (a b : ℕ) (good : omap_fault s ≡ none) (h : b ≤ a) where
  fits-empty : window_fault true s a b ≡ none
  unfolding all_fit
  fits-empty = fault-free s a b good (rw (no_pieces a b (records s) h))

  pub empty-single : clash_spec s a b ≡ value none
  empty-single =
      is-single s a b fits-empty
      (λ t x y v w. let l : a ≤ x = v.from in let k : x < b = v.below in absurd (omega arith))

  pub empty_back : (t : ℕ) → back_spec s a b t ≡ nothing
  empty_back t = none-back s a b fits-empty t
      (λ x w. let l : a ≤ x = w.from in let k : x < b = w.below in omega arith)

-- "single" passes to every smaller window
pub smaller-single : (s : List ℕ) (a b c d : ℕ) → a ≤ c → d ≤ b → clash_spec s a b ≡ value none
    → clash_spec s c d ≡ value none
smaller-single s a b c d h k e =
    let good = window-good s a b none e in
    let g = faultless s a b good in
    is-single s c d (fault-free s c d g.0 (smaller-fits a b c d h k (records s) g.1))
    (λ t x y v w.
    let l : c ≤ x = v.from in
    let m : x < d = v.below in
    let i : c ≤ y = w.from in
    let j : y < d = w.below in
    single-is s a b good e t x y
    (record { from = omega arith; below = omega arith; lands = v.lands })
    (record { from = omega arith; below = omega arith; lands = w.lands }))
