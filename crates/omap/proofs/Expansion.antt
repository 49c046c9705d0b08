-- Demand 2: the pieces of a window, written out, are the single translations of its addresses, in order, holes left
-- out.
-- Assumes nothing.
use mathlib.Core.Path.{◌≡◌, refl, sym, ap, ◌∙◌}
use mathlib.Core.Logic.{◌⊎◌, inl, inr, ⊎_elim}
use Prim.Native.Nat.{ℕ, zero, suc, ◌+◌, ◌-◌, ◌≤◌, ◌<◌, max, min}
use native.Mathlib.Omega.{arith}
use native.Mathlib.Nat.{eq-zero-or-pos}
use mathlib.Core.Bool.{true, cond}
use mathlib.Core.List.{List, [], ◌∷◌, ◌++◌}
use mathlib.Core.Option.{Option, none, some}
use lib.Dec.{leb}
use borrow.Author.Tests.{le-leb, lt-leb, eq-eqb, ne_eqb}
use Rattle.lent.specs.Words.{or_else, put}
use Rattle.lent.specs.Order.{rising_after, rising, omap_fault, last_at}
use Rattle.lent.proofs.Rising.{after-rising}
use Rattle.omap.specs.Records.{Entry, records, sources, holder_of, moved, single}
use Rattle.omap.specs.Window.{Piece, next_of, pieces}
use Rattle.omap.specs.Expand.{up_from, range, map_maybe, expand, total}
use lib.ListN.{length, length-append}
use Rattle.lent.proofs.Logic.{lt-or-le}
use Rattle.omap.proofs.Last.{sources-keys, in_order, first_above, rest-above}
use Rattle.omap.proofs.Pieces.{piece-empty, piece-zero, piece-some}

-- numbers from a on, in two runs
up_split : (a m n : ℕ) → up_from a (m + n) ≡ up_from a m ++ up_from (a + m) n
unfolding up_from
up_split a zero n =
    let e : zero + n ≡ n = omega arith in
    let f : a + zero ≡ a = omega arith in
    rw (e, f)
up_split a (suc m) n =
    let e : suc m + n ≡ suc (m + n) = omega arith in
    let f : a + suc m ≡ suc a + m = omega arith in
    rw (e, f, up_split (suc a) m n)

pub range_split : (a m b : ℕ) → a ≤ m → m ≤ b → range a b ≡ range a m ++ range m b
range_split a m b h l =
    let e : b - a ≡ (m - a) + (b - m) = omega arith in
    let f : m ≡ a + (m - a) = omega arith in
    ap (up_from a) e ∙ up_split a (m - a) (b - m) ∙ ap (λ (k : ℕ). range a m ++ up_from k (b - m)) (sym f)

module _ (f : ℕ → Option ℕ) where
  put-append : (o : Option ℕ) (x y : List ℕ) → put o (x ++ y) ≡ put o x ++ y
  unfolding put
  put-append none x y = refl
  put-append (some v) x y = refl

  map-append : (x y : List ℕ) → map_maybe f (x ++ y) ≡ map_maybe f x ++ map_maybe f y
  unfolding map_maybe
  map-append [] y = refl
  map-append (v ∷ x) y = ap (put (f v)) (map-append x y) ∙ put-append (f v) (map_maybe f x) (map_maybe f y)

  -- nothing where f has no value
  map-none : (n a : ℕ) → ((d : ℕ) → a ≤ d → d < a + n → f d ≡ none) → map_maybe f (up_from a n) ≡ []
  unfolding map_maybe up_from put
  map-none zero a h = refl
  map-none (suc n) a h = rw (h a (omega arith) (omega arith))
      (map-none n (suc a) (λ d l m. h d (omega arith) (omega arith)))

  -- f moves each number by the same distance
  map-moved : (n a s t : ℕ) → s ≤ a → ((d : ℕ) → a ≤ d → d < a + n → f d ≡ some (d - s + t)) → map_maybe f
      (up_from a n) ≡ up_from (a - s + t) n
  unfolding map_maybe up_from put
  map-moved zero a s t l h = refl
  map-moved (suc n) a s t l h =
      let e : suc a - s + t ≡ suc (a - s + t) = omega arith in
      rw (
        h a (omega arith) (omega arith),
        map-moved n (suc a) s t (omega arith)
            (λ d p q. h d (omega arith) (omega arith)),
        e,
      )

  map_same : (g : ℕ → Option ℕ) (n a : ℕ) → ((d : ℕ) → a ≤ d → d < a + n → f d ≡ g d) → map_maybe f
      (up_from a n) ≡ map_maybe g (up_from a n)
  unfolding map_maybe up_from
  map_same g zero a h = refl
  map_same g (suc n) a h =
      rw (h a (omega arith) (omega arith), map_same g n (suc a) (λ d l m. h d (omega arith) (omega arith)))

-- no record after p is at or below an address of at most p
pub above-none : (p d : ℕ) (l : List Entry) → rising_after p (sources l) ≡ true → d ≤ p → holder_of d l ≡ none
unfolding last_at or_else
above-none p d [] r h = refl
above-none p d (x ∷ l) r h =
    let up : p < x.source = first_above p x l r in
    rw (above-none x.source d l (rest-above p x l r) (omega arith), lt-leb x.source d (omega arith))

-- none before the first source
before-none : (d : ℕ) (l : List Entry) → rising (sources l) ≡ true → d < next_of l → holder_of d l ≡ none
unfolding rising last_at or_else next_of
before-none d [] r h = refl
before-none d (x ∷ l) r h = rw (above-none x.source d l r (omega arith), lt-leb x.source d h)

pub or_some : {A : Type 0} (o : Option A) (y : A) (z : Option A) → or_else (or_else o (some y)) z ≡ or_else o (some y)
unfolding or_else
or_some none y z = refl
or_some (some v) y z = refl

-- from the next source on, the first record plays no part
after_next : (d : ℕ) (x y : Entry) (l : List Entry) → y.source ≤ d → holder_of d (x ∷ (y ∷ l)) ≡ holder_of d (y ∷ l)
unfolding last_at
after_next d x y l h = rw (le-leb y.source d h) (or_some (holder_of d l) y (cond (leb x.source d) (some x) none))

module _ (x : Entry) (l : List Entry) (r : rising_after x.source (sources l) ≡ true) where
  next-above : (d : ℕ) → d < next_of l → holder_of d l ≡ none
  next-above d h = before-none d l (after-rising x.source (sources l) r) h

  single-here : (d : ℕ) → x.source ≤ d → d < next_of l → single (x ∷ l) d ≡ moved d (some x)
  unfolding single last_at or_else
  single-here d h m = rw (next-above d m, le-leb x.source d h)

  pub single-rest : (d : ℕ) → d < next_of l → single l d ≡ none
  unfolding single moved
  single-rest d m = rw (next-above d m)

  pub single-below : (d : ℕ) → d < x.source → single (x ∷ l) d ≡ none
  unfolding single moved rising next_of
  single-below d m = ap (moved d) (before-none d (x ∷ l) r m)

  rest_below : (d : ℕ) → d ≤ x.source → single l d ≡ none
  unfolding single moved
  rest_below d m = ap (moved d) (above-none x.source d l r m)

  -- a target of 0 translates nothing
  single-zero : (d : ℕ) → x.source ≤ d → d < next_of l → x.target ≡ 0 → single (x ∷ l) d ≡ none
  unfolding moved
  single-zero d h m z = single-here d h m ∙ rw (eq-eqb x.target 0 z)

  pub single-moved : (d : ℕ) → x.source ≤ d → d < next_of l → (x.target ≡ 0 → ⊥) → single (x ∷ l) d ≡ some
      (d - x.source + x.target)
  unfolding moved
  single-moved d h m z = single-here d h m ∙ rw (ne_eqb x.target 0 z)

pub after_same : (x : Entry) (l : List Entry) (d : ℕ) → next_of l ≤ d → d < 4294967296 → single (x ∷ l) d ≡ single l d
unfolding single next_of
after_same x [] d h m = absurd (omega arith)
after_same x (y ∷ l) d h m = ap (moved d) (after_next d x y l h)

-- a record with no piece in the window changes no translation there
pub no-piece : (a b : ℕ) (x : Entry) (l : List Entry) → rising_after x.source (sources l) ≡ true → b ≤ 4294967296
    → (min b (next_of l) ≤ max a x.source) ⊎ (x.target ≡ 0) → (d : ℕ) → a ≤ d → d < b → single (x ∷ l) d ≡ single l d
no-piece a b x l r w c d h m =
    ⊎_elim
    (λ (q : d < x.source). single-below x l r d q ∙ sym (rest_below x l r d (omega arith)))
    (λ (q : x.source ≤ d).
    ⊎_elim
    (λ (k : d < next_of l).
    ⊎_elim
    (λ (e : min b (next_of l) ≤ max a x.source). absurd (omega arith))
    (λ (z : x.target ≡ 0). single-zero x l r d q k z ∙ sym (single-rest x l r d k))
    c)
    (λ (k : next_of l ≤ d). after_same x l d k (omega arith))
    (lt-or-le d (next_of l)))
    (lt-or-le d x.source)

-- a record with a piece
pub one_piece : (a b : ℕ) (x : Entry) (l : List Entry) → rising_after x.source (sources l) ≡ true → b ≤ 4294967296
    → max a x.source < min b (next_of l) → (x.target ≡ 0 → ⊥)
    → map_maybe (single (x ∷ l)) (range a b)
    ≡ up_from (max a x.source - x.source + x.target) (min b (next_of l) - max a x.source) ++ map_maybe (single l)
    (range a b)
one_piece a b x l r w h z =
    let f = single (x ∷ l) in
    let g = single l in
    let lo = max a x.source in
    let hi = min b (next_of l) in
    let low : map_maybe f (range a lo) ≡ [] = map-none f (lo - a) a (λ d p q. single-below x l r d (omega arith)) in
    let mid : map_maybe f (range lo hi) ≡ up_from (lo - x.source + x.target) (hi - lo) = map-moved f (hi - lo) lo
    x.source x.target (omega arith) (λ d p q. single-moved x l r d (omega arith) (omega arith) z) in
    let top : map_maybe f (range hi b) ≡ map_maybe g (range hi b) = map_same f g (b - hi) hi
    (λ d p q. after_same x l d (omega arith) (omega arith)) in
    let rest : map_maybe g (range a hi) ≡ [] = map-none g (hi - a) a (λ d p q. single-rest x l r d (omega arith)) in
    let whole : map_maybe g (range a b) ≡ map_maybe g (range hi b)
    = ap (map_maybe g) (range_split a hi b (omega arith) (omega arith)) ∙ map-append g (range a hi) (range hi b)
    ∙ ap (λ (k : List ℕ). k ++ map_maybe g (range hi b)) rest in
    let one : range a b ≡ range a lo ++ range lo b = range_split a lo b (omega arith) (omega arith) in
    let two : range lo b ≡ range lo hi ++ range hi b = range_split lo hi b (omega arith) (omega arith) in
    ap (map_maybe f) (one ∙ ap (λ (k : List ℕ). range a lo ++ k) two)
    ∙ map-append f (range a lo) (range lo hi ++ range hi b)
    ∙ ap (λ (k : List ℕ). k ++ map_maybe f (range lo hi ++ range hi b)) low
    ∙ map-append f (range lo hi) (range hi b)
    ∙ rw (mid, top, whole)

pub expansion : (a b : ℕ) (l : List Entry) → rising (sources l) ≡ true → b ≤ 4294967296 → expand
    (pieces a b l) ≡ map_maybe (single l) (range a b)
unfolding rising single moved last_at pieces expand put
expansion a b [] r w = sym (map-none (single []) (b - a) a (λ d p q. refl))
expansion a b (x ∷ l) r w =
    let ih : expand (pieces a b l) ≡ map_maybe (single l) (range a b) = expansion a b l
    (after-rising x.source (sources l) r) w in
    let none_here : (min b (next_of l) ≤ max a x.source) ⊎ (x.target ≡ 0) → map_maybe (single (x ∷ l))
    (range a b) ≡ map_maybe (single l) (range a b)
    = λ c. map_same (single (x ∷ l)) (single l) (b - a) a (λ d p q. no-piece a b x l r w c d p (omega arith)) in
    ⊎_elim
    (λ (h : max a x.source < min b (next_of l)).
    ⊎_elim
    (λ (z : x.target ≡ 0). rw (piece-zero a b x (next_of l) z) (ih ∙ sym (none_here (inr z))))
    (λ (z : 0 < x.target).
    rw (piece-some a b x (next_of l) h (λ e. omega arith))
    (ap (λ (k : List ℕ). up_from (max a x.source - x.source + x.target)
    (min b (next_of l) - max a x.source) ++ k) ih
    ∙ sym (one_piece a b x l r w h (λ e. omega arith))))
    (eq-zero-or-pos x.target))
    (λ (h : min b (next_of l) ≤ max a x.source). rw (piece-empty a b x (next_of l) h) (ih ∙ sym (none_here (inl h))))
    (lt-or-le (max a x.source) (min b (next_of l)))

-- the pieces' lengths add up to the number of the window's addresses that have a translation
length_up : (a n : ℕ) → length (up_from a n) ≡ n
unfolding up_from
length_up a zero = refl
length_up a (suc n) = ap suc (length_up (suc a) n)

length-expand : (l : List Piece) → length (expand l) ≡ total l
unfolding expand total
length-expand [] = refl
length-expand (p ∷ l) =
    length-append (up_from p.to p.size) (expand l) ∙ omega (arith, length_up p.to p.size, length-expand l)

pub lengths : (a b : ℕ) (l : List Entry) → rising (sources l) ≡ true → b ≤ 4294967296 → total (pieces a b l) ≡ length
    (map_maybe (single l) (range a b))
lengths a b l r w = sym (length-expand (pieces a b l)) ∙ ap length (expansion a b l r w)

-- demand 2 of a table that is not refused, in a window of 32 bits
pub window-expansion : (s : List ℕ) (a b : ℕ) → omap_fault s ≡ none → b ≤ 4294967295
    → expand (pieces a b (records s)) ≡ map_maybe (single (records s)) (range a b)
window-expansion s a b good h = expansion a b (records s) (ap rising (sources-keys s) ∙ in_order s good) (omega arith)

pub window-lengths : (s : List ℕ) (a b : ℕ) → omap_fault s ≡ none → b ≤ 4294967295
    → total (pieces a b (records s)) ≡ length (map_maybe (single (records s)) (range a b))
window-lengths s a b good h = lengths a b (records s) (ap rising (sources-keys s) ∙ in_order s good) (omega arith)
