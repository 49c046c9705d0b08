-- The addresses of a window, each with its translation: those of its pieces, in order. Clashes and sources are read off
-- that list.
-- Assumes nothing.
use mathlib.Core.Path.{◌≡◌, refl, ap, ◌∙◌}
use mathlib.Core.Logic.{◌⊎◌, inl, inr, ⊎_elim}
use Prim.Native.Nat.{ℕ, zero, suc, ◌+◌, ◌-◌, ◌≤◌, ◌<◌, max, min}
use native.Mathlib.Omega.{arith}
use native.Mathlib.Nat.{eq-zero-or-pos}
use mathlib.Core.Bool.{true, cond}
use mathlib.Core.List.{List, [], ◌∷◌, ◌++◌}
use mathlib.Core.Option.{Option, none, some}
use lib.Dec.{eqb}
use Rattle.lent.specs.Words.{put}
use Rattle.lent.specs.Order.{rising_after, rising, last_at}
use Rattle.lent.proofs.Rising.{after-rising}
use Rattle.lent.proofs.Logic.{lt-or-le}
use Rattle.omap.specs.Records.{sources, moved, single}
use Rattle.omap.specs.declared.lookups.Entry.{Entry}
use Rattle.omap.specs.Window.{next_of, pieces}
use Rattle.omap.specs.Window.{Piece}
use Rattle.omap.specs.Expand.{up_from, range}
use Rattle.omap.proofs.Pieces.{piece-empty, piece-zero, piece-some}
use Rattle.omap.proofs.Expansion.{range_split, single-rest, single-below, single-moved, after_same, no-piece}
use Rattle.clash.specs.Clash.{lands_on, sources_of, sharing, Pair, paired_or, first_clash}

-- an address and its translation
pub record Sent : Type 0 where
  pub from : ℕ
  pub to : ℕ

abbrev sent : ℕ → Option ℕ → Option Sent
sent x none = none
sent x (some t) = some (record { from = x; to = t })

-- the addresses of a list that f translates
unfoldable pub sent_by : (ℕ → Option ℕ) → List ℕ → List Sent
sent_by f [] = []
sent_by f (x ∷ l) = put (sent x (f x)) (sent_by f l)

-- n addresses from x on, moved to t by one distance
unfoldable pub run : ℕ → ℕ → ℕ → List Sent
run x t zero = []
run x t (suc n) = record { from = x; to = t } ∷ run (suc x) (suc t) n

unfoldable pub sent_pieces : List Piece → List Sent
sent_pieces [] = []
sent_pieces (p ∷ l) = run p.at p.to p.size ++ sent_pieces l

put-append : (o : Option Sent) (x y : List Sent) → put o (x ++ y) ≡ put o x ++ y
unfolding put
put-append none x y = refl
put-append (some v) x y = refl

module _ (f : ℕ → Option ℕ) where
  by_append : (x y : List ℕ) → sent_by f (x ++ y) ≡ sent_by f x ++ sent_by f y
  unfolding sent_by
  by_append [] y = refl
  by_append (v ∷ x) y = ap (put (sent v (f v))) (by_append x y) ∙ put-append (sent v (f v)) (sent_by f x) (sent_by f y)

  by-none : (n a : ℕ) → ((d : ℕ) → a ≤ d → d < a + n → f d ≡ none) → sent_by f (up_from a n) ≡ []
  unfolding sent_by up_from put
  by-none zero a h = refl
  by-none (suc n) a h = rw (h a (omega arith) (omega arith))
      (by-none n (suc a) (λ d l m. h d (omega arith) (omega arith)))

  by-moved : (n a s t : ℕ) → s ≤ a → ((d : ℕ) → a ≤ d → d < a + n → f d ≡ some (d - s + t)) → sent_by f
      (up_from a n) ≡ run a (a - s + t) n
  unfolding sent_by up_from put run
  by-moved zero a s t l h = refl
  by-moved (suc n) a s t l h =
      let e : suc a - s + t ≡ suc (a - s + t) = omega arith in
      rw (
        h a (omega arith) (omega arith),
        by-moved n (suc a) s t (omega arith)
            (λ d p q. h d (omega arith) (omega arith)),
        e,
      )

  by-same : (g : ℕ → Option ℕ) (n a : ℕ) → ((d : ℕ) → a ≤ d → d < a + n → f d ≡ g d) → sent_by f (up_from a n) ≡ sent_by g
      (up_from a n)
  unfolding sent_by up_from
  by-same g zero a h = refl
  by-same g (suc n) a h = rw (
    h a (omega arith) (omega arith),
    by-same g n (suc a)
        (λ d l m. h d (omega arith) (omega arith)),
  )

-- a record with a piece
one-run : (a b : ℕ) (x : Entry) (l : List Entry) → rising_after x.source (sources l) ≡ true → b ≤ 4294967296
    → max a x.source < min b (next_of l) → (x.target ≡ 0 → ⊥)
    → sent_by (single (x ∷ l)) (range a b)
    ≡ run (max a x.source) (max a x.source - x.source + x.target)
    (min b (next_of l) - max a x.source) ++ sent_by (single l) (range a b)
one-run a b x l r w h z =
    let f = single (x ∷ l) in
    let g = single l in
    let lo = max a x.source in
    let hi = min b (next_of l) in
    let low : sent_by f (range a lo) ≡ [] = by-none f (lo - a) a (λ d p q. single-below x l r d (omega arith)) in
    let mid : sent_by f (range lo hi) ≡ run lo (lo - x.source + x.target) (hi - lo) = by-moved f (hi - lo) lo
    x.source x.target (omega arith) (λ d p q. single-moved x l r d (omega arith) (omega arith) z) in
    let top : sent_by f (range hi b) ≡ sent_by g (range hi b) = by-same f g (b - hi) hi
    (λ d p q. after_same x l d (omega arith) (omega arith)) in
    let rest : sent_by g (range a hi) ≡ [] = by-none g (hi - a) a (λ d p q. single-rest x l r d (omega arith)) in
    let whole : sent_by g (range a b) ≡ sent_by g (range hi b)
    = ap (sent_by g) (range_split a hi b (omega arith) (omega arith)) ∙ by_append g (range a hi) (range hi b)
    ∙ ap (λ (k : List Sent). k ++ sent_by g (range hi b)) rest in
    let one : range a b ≡ range a lo ++ range lo b = range_split a lo b (omega arith) (omega arith) in
    let two : range lo b ≡ range lo hi ++ range hi b = range_split lo hi b (omega arith) (omega arith) in
    ap (sent_by f) (one ∙ ap (λ (k : List ℕ). range a lo ++ k) two)
    ∙ by_append f (range a lo) (range lo hi ++ range hi b)
    ∙ ap (λ (k : List Sent). k ++ sent_by f (range lo hi ++ range hi b)) low
    ∙ by_append f (range lo hi) (range hi b)
    ∙ rw (mid, top, whole)

pub window-sent : (a b : ℕ) (l : List Entry) → rising (sources l) ≡ true → b ≤ 4294967296 → sent_by (single l)
    (range a b) ≡ sent_pieces (pieces a b l)
unfolding rising single moved last_at pieces sent_pieces put
window-sent a b [] r w = by-none (single []) (b - a) a (λ d p q. refl)
window-sent a b (x ∷ l) r w =
    let ih : sent_by (single l) (range a b) ≡ sent_pieces (pieces a b l) = window-sent a b l
    (after-rising x.source (sources l) r) w in
    let none_here : (min b (next_of l) ≤ max a x.source) ⊎ (x.target ≡ 0) → sent_by (single (x ∷ l))
    (range a b) ≡ sent_by (single l) (range a b)
    = λ c. by-same (single (x ∷ l)) (single l) (b - a) a (λ d p q. no-piece a b x l r w c d p (omega arith)) in
    ⊎_elim
    (λ (h : max a x.source < min b (next_of l)).
    ⊎_elim
    (λ (z : x.target ≡ 0). rw (piece-zero a b x (next_of l) z) (none_here (inr z) ∙ ih))
    (λ (z : 0 < x.target).
    rw (piece-some a b x (next_of l) h (λ e. omega arith))
    (one-run a b x l r w h (λ e. omega arith)
    ∙ ap (λ (k : List Sent). run (max a x.source) (max a x.source - x.source + x.target)
    (min b (next_of l) - max a x.source) ++ k) ih))
    (eq-zero-or-pos x.target))
    (λ (h : min b (next_of l) ≤ max a x.source). rw (piece-empty a b x (next_of l) h) (none_here (inl h) ∙ ih))
    (lt-or-le (max a x.source) (min b (next_of l)))

-- those sent to t
unfoldable pub sources_at : ℕ → List Sent → List ℕ
sources_at t [] = []
sources_at t (q ∷ g) = cond (eqb q.to t) (q.from ∷ sources_at t g) (sources_at t g)

-- the first sent to where a later one is sent, and the first such later one
unfoldable pub clash_in : List Sent → Option Pair
clash_in [] = none
clash_in (q ∷ g) = paired_or q.from (sources_at q.to g) (clash_in g)

module _ (f : ℕ → Option ℕ) where
  sources-put : (t x : ℕ) (o : Option ℕ) (l : List ℕ) (g : List Sent) → l ≡ sources_at t g → cond (lands_on o t)
      (x ∷ l) l ≡ sources_at t (put (sent x o) g)
  unfolding lands_on put sources_at
  sources-put t x none l g e = e
  sources-put t x (some v) l g e = rw e

  pub sources-sent : (t : ℕ) (l : List ℕ) → sources_of f t l ≡ sources_at t (sent_by f l)
  unfolding sources_of sent_by sources_at
  sources-sent t [] = refl
  sources-sent t (x ∷ l) = sources-put t x (f x) (sources_of f t l) (sent_by f l) (sources-sent t l)

  clash-put : (x : ℕ) (o : Option ℕ) (l : List ℕ) (p : Option Pair) → p ≡ clash_in (sent_by f l) → paired_or x
      (sharing f o l) p ≡ clash_in (put (sent x o) (sent_by f l))
  unfolding put clash_in paired_or
  clash-put x none l p e = e
  clash-put x (some v) l p e = rw (e, sources-sent v l)

  pub clash-sent : (l : List ℕ) → first_clash f l ≡ clash_in (sent_by f l)
  unfolding first_clash sent_by clash_in
  clash-sent [] = refl
  clash-sent (x ∷ l) = clash-put x (f x) l (first_clash f l) (clash-sent l)
