-- Demand 2, over what a caller sees: where the whole-window call on a table is not refused and tells n pieces, the
-- first n entries of its output, written out in order, are the values that the single lookup gives for the addresses of
-- the window, holes left out.
-- Assumes nothing.
use mathlib.Core.Path.{◌≡◌, refl, ap, ◌∙◌}
use Prim.Native.Nat.{ℕ, zero, suc, ◌+◌, ◌-◌, ◌/◌, ◌≤◌, ◌<◌}
use native.Mathlib.Omega.{arith}
use mathlib.Core.Bool.{Bool, true, false, cond, ◌&&◌}
use mathlib.Core.List.{List, [], ◌∷◌, ◌++◌}
use mathlib.Core.Option.{Option, none, some}
use lib.ListN.{length, drop}
use lib.Dec.{leb}
use borrow.Author.Tests.{le-leb, leb-true}
use Rattle.lent.specs.Words.{put}
use Rattle.lent.specs.Order.{omap_fault}
use Rattle.lent.specs.Paper.{first_fault, unless, fitted}
use Rattle.lent.specs.Room.{Written, counted, refused_for, room_for, unless_fault, out_after, written_over}
use Rattle.lent.proofs.Logic.{and_left, and_right}
use Rattle.omap.specs.Records.{records, single}
use Rattle.omap.specs.Lookup.{lookup_spec, value_of, looked_up}
use Rattle.omap.specs.Window.{Piece, pieces}
use Rattle.omap.specs.Output.{beside_start, all_fit, sum_fault, window_fault, flat}
use Rattle.omap.specs.Output.{window_spec, window_out}
use Rattle.omap.specs.Expand.{up_from, range, map_maybe, expand, expand_entries}
use Rattle.omap.proofs.Pieces.{fits-target, first_fits, others-fit}
use Rattle.omap.proofs.Expansion.{window-expansion}

-- ---- the entries written out are the pieces written out
entries-pieces : (l : List Piece) (more : List ℕ) → expand_entries (length l) (flat l ++ more) ≡ expand l
unfolding expand_entries flat expand beside_start
entries-pieces [] more = refl
entries-pieces (p ∷ l) more =
    let e : p.to + p.size - p.to ≡ p.size = omega arith in
    rw (e, entries-pieces l more)

-- ---- where all pieces fit, the values written out are below 2 ^ 32, and so told by the lookup
unfoldable small : List ℕ → Bool
small [] = true
small (x ∷ l) = leb x 4294967295 && small l

small-run : (t : ℕ) (l : List ℕ) → small l ≡ true → (x n : ℕ) → x + n ≤ t → ((y : ℕ) → y < t → y ≤ 4294967295) → small
    (up_from x n ++ l) ≡ true
unfolding up_from small
small-run t l s x zero h k = s
small-run t l s x (suc n) h k = rw (le-leb x 4294967295 (k x (omega arith))) (small-run t l s (suc x) n (omega arith) k)

small-pieces : (l : List Piece) → all_fit l ≡ true → small (expand l) ≡ true
unfolding expand small
small-pieces [] f = refl
small-pieces (p ∷ l) f =
    small-run (p.to + p.size) (expand l) (small-pieces l (others-fit p l f)) p.to p.size (omega arith)
    (λ y h. fits-target p (first_fits p l f) y h)

fitted-value : (o : Option ℕ) (l : List ℕ) → small (put o l) ≡ true → (value_of (fitted o) ≡ o) × (small l ≡ true)
unfolding put small
fitted-value none l s = (refl, s)
fitted-value (some t) l s = (
  rw (le-leb t 4294967295 (leb-true t 4294967295 (and_left (leb t 4294967295) (small l) s))),
  and_right
      (leb t 4294967295) (small l) s,
)

told-values : (f : ℕ → Option ℕ) (l : List ℕ) → small (map_maybe f l) ≡ true → map_maybe f l ≡ map_maybe
    (λ (x : ℕ). value_of (fitted (f x))) l
unfolding map_maybe
told-values f [] s = refl
told-values f (x ∷ l) s =
    let k = fitted-value (f x) (map_maybe f l) s in
    rw k.0 (ap (put (f x)) (told-values f l k.1))

-- ---- a call that tells a number was not refused
told : (f g : Option ℕ) (m n room : ℕ) → unless_fault (first_fault f g)
    (cond (leb m room) (counted m) (refused_for 5 m)) ≡ counted n
    → (f ≡ none) × ((g ≡ none) × (m ≡ n))
told none none m n room e = go (leb m room) e
  where
    go : (t : Bool) → cond t (counted m) (refused_for 5 m) ≡ counted n
        → (◌≡◌ {A = Option ℕ} none none) × ((◌≡◌ {A = Option ℕ} none none) × (m ≡ n))
    go true e = (refl, (refl, (cc)))
    go false e = ((cc), ((cc), (cc)))
told none (some k) m n room e = ((cc), ((cc), (cc)))
told (some k) g m n room e = ((cc), ((cc), (cc)))

fit_all : (t : Bool) → ◌≡◌ {A = Option ℕ} (cond t none (some 4)) none → t ≡ true
fit_all true e = refl
fit_all false e = cc

unrefused : (fault : Option ℕ) (f : ℕ → Option ℕ) (l : List ℕ) → fault ≡ none
    → map_maybe (λ (x : ℕ). value_of (fitted (f x))) l ≡ map_maybe (λ (x : ℕ). value_of (unless fault (fitted (f x)))) l
unrefused none f l e = refl
unrefused (some n) f l e = cc

module _ (s : List ℕ) (a b : ℕ) (out : List ℕ) (n : ℕ) (e : window_spec true s a b (length out / 2) ≡ counted n) where
  answer : (omap_fault s ≡ none) × ((all_fit (pieces a b (records s)) ≡ true) × (length (pieces a b (records s)) ≡ n))
  unfolding window_spec window_fault sum_fault room_for
  answer =
      let q = told (omap_fault s) (cond (all_fit (pieces a b (records s))) none (some 4))
      (length (pieces a b (records s))) n (length out / 2) e in
      (q.0, (fit_all (all_fit (pieces a b (records s))) q.1.0, q.1.1))

  written : window_out true s a b out ≡ written_over (flat (pieces a b (records s))) out
  unfolding window_out
  written = ap (λ (w : Written). out_after w (flat (pieces a b (records s))) out) e

  told-lookups : map_maybe (λ (x : ℕ). value_of (fitted (single (records s) x))) (range a b) ≡ map_maybe (looked_up true s)
      (range a b)
  unfolding lookup_spec
  told-lookups = unrefused (omap_fault s) (single (records s)) (range a b) answer.0

  pub demand-2 : b ≤ 4294967295 → expand_entries n (window_out true s a b out) ≡ map_maybe (looked_up true s) (range a b)
  demand-2 w =
      let by-pieces : expand (pieces a b (records s)) ≡ map_maybe (single (records s))
      (range a b) = window-expansion s a b answer.0 (omega arith) in
      rw (written, ← answer.1.1) (entries-pieces (pieces a b (records s))
      (drop (length (flat (pieces a b (records s)))) out))
      ∙ by-pieces
      ∙ told-values (single (records s)) (range a b)
      (rw (← by-pieces) (small-pieces (pieces a b (records s)) answer.1.0))
      ∙ told-lookups
