-- Demand 3, in one statement (specs/Demand): for every table that is not refused 1, 2, 3 and every window that is not
-- refused 4.
-- Assumes nothing.
use mathlib.Core.Path.{◌≡◌, ap}
use mathlib.Core.Logic.{⊎_elim}
use Prim.Native.Nat.{ℕ, ◌≤◌, ◌<◌}
use native.Mathlib.Omega.{arith}
use mathlib.Core.Bool.{true}
use mathlib.Core.List.{List}
use mathlib.Core.Option.{Option, none, some}
use Rattle.lent.specs.Paper.{Told, value, nothing, refused}
use Rattle.omap.specs.Records.{records, single}
use Rattle.omap.specs.Lookup.{lookup_spec, value_of, looked_up}
use Rattle.omap.specs.Output.{window_fault}
use Rattle.clash.specs.Clash.{clash_spec}
use Rattle.clash.specs.Demand.{Source, Clash, Reported, Demand3}
use Rattle.clash.proofs.Answered as answered

value-is : (o : Told ℕ) (t : ℕ) → value_of o ≡ some t → o ≡ value t
value-is (value v) t e = let q : v ≡ t = cc in ap value q
value-is nothing t e = let z : ◌≡◌ {A = ℕ} 0 1 = cc in cc
value-is (refused n) t e = let z : ◌≡◌ {A = ℕ} 0 1 = cc in cc

module _ (s : List ℕ) (a b : ℕ) (w : b ≤ 4294967295) (good : window_fault true s a b ≡ none) where
  -- the unbounded translation of the laws, and what the lookup tells
  abbrev f : ℕ → Option ℕ
  f = single (records s)

  lands : (t x : ℕ) → Source (looked_up true s) a b t x → Source f a b t x
  lands t x v = answered.lookup-told s a b good t x v.from v.below (value-is (lookup_spec true s x) t v.lands)

  tells : (t x : ℕ) → Source f a b t x → Source (looked_up true s) a b t x
  tells t x v = record {
    from = v.from;
    below = v.below;
    lands = ap value_of
        (answered.lookup-tells s a b good w t x v);
  }

  module _ (x y : ℕ) where
    shared : Clash (looked_up true s) a b x y → Clash f a b x y
    shared c =
        let l : x < y = c.apart in
        let m : y < b = c.below in
        let k : a ≤ x = c.from in
        let v = lands c.target x (record { from = k; below = omega arith; lands = c.first }) in
        let u = lands c.target y (record { from = omega arith; below = m; lands = c.second }) in
        record { from = k; apart = l; below = m; target = c.target; first = v.lands; second = u.lands }

    sharing : Clash f a b x y → Clash (looked_up true s) a b x y
    sharing c =
        let l : x < y = c.apart in
        let m : y < b = c.below in
        let k : a ≤ x = c.from in
        let v = tells c.target x (record { from = k; below = omega arith; lands = c.first }) in
        let u = tells c.target y (record { from = omega arith; below = m; lands = c.second }) in
        record { from = k; apart = l; below = m; target = c.target; first = v.lands; second = u.lands }

  pub demand-3 : Demand3 s a b
  demand-3 = record {
    reports = λ h. answered.is-reported s a b good h.first h.second (shared h.first h.second h.clash);
    reported = λ r.
        let l = answered.pair_is s a b good r.pair r.is in
        record {
          is = sharing r.pair.first r.pair.second l.is;
          least = λ x y c. l.least x y
              (shared x y c);
        };
    otherwise = λ n.
        ⊎_elim (λ (e : clash_spec s a b ≡ value none). e) (λ (r : Reported s a b). absurd (n r))
        (answered.single-or-pair s a b good);
    source = λ e t x v. answered.source-back s a b good t e x (lands t x v);
    no_source = λ e t n. answered.none-back s a b good t (λ x v. n x (tells t x v));
  }
