-- The records that begin below a window's end, past the one whose piece is searched: their pieces, and what each adds
-- to the search for the first shared target.
-- Assumes nothing.
use mathlib.Core.Path.{◌≡◌, refl, sym, ap, ◌∙◌}
use mathlib.Core.Logic.{⊎_elim}
use Prim.Native.Nat.{ℕ, zero, suc, ◌+◌, ◌-◌, ◌*◌, ◌/◌, ◌≤◌, ◌<◌, max, min}
use native.Mathlib.Omega.{arith}
use mathlib.Core.Bool.{true}
use mathlib.Core.List.{List, ◌∷◌}
use mathlib.Core.Option.{Option, none, some}
use lib.ListN.{length}
use borrow.Author.Tests.{lt-ltb, le-ltb}
use Rattle.lent.specs.Words.{or_else}
use Rattle.lent.specs.Table.{listed}
use Rattle.lent.specs.Order.{key_at, keys, rising}
use Rattle.lent.proofs.Rising.{each, in_place}
use Rattle.lent.proofs.Field.{Bytes, below}
use Rattle.lent.proofs.Logic.{lt-or-le}
use Rattle.omap.specs.Records.{entry_at, rest}
use Rattle.omap.specs.Window.{next_of, piece_of, pieces}
use Rattle.omap.specs.Window.{Piece}
use Rattle.omap.specs.Walk.{part_at, Below}
use Rattle.omap.proofs.Last.{src}
use Rattle.omap.proofs.Expansion.{or_some}
use Rattle.omap.proofs.Walking.{tgt, none_after}
use Rattle.omap.proofs.Pieces.{next-some, next-none, piece-zero, piece-some, piece_is, step-none, step-some}
use Rattle.clash.specs.Clash.{Pair}
use Rattle.clash.specs.Shared.{first_shared, found_below, Better}
use Rattle.clash.specs.declared.shared.Shared.{Shared}
use Rattle.clash.proofs.Sharing.{shared-high, shared-low, shared-here, shared-first, shared-nothing, or_nothing}

-- where a window starts plays no part in the pieces of records past it
pieces-from : (s : List ℕ) (a b i n : ℕ) → ((j : ℕ) → i ≤ j → j < i + n → a ≤ src s j)
    → pieces a b (listed (entry_at s) i n) ≡ pieces 0 b (listed (entry_at s) i n)
unfolding pieces listed piece_of
pieces-from s a b i zero h = refl
pieces-from s a b i (suc n) h =
    let here : a ≤ src s i = h i (omega arith) (omega arith) in
    let e : max a (src s i) ≡ max 0 (src s i) = omega arith in
    rw (e, pieces-from s a b (suc i) n (λ j m l. h j (omega arith) (omega arith)))

-- nor in those after a record that has one
pub past-start : (s : List ℕ) (a b n : ℕ) (p : Piece) → 0 < n → rising (keys 8 s) ≡ true → part_at s a b (n - 1) ≡ some p
    → pieces a b (rest s n) ≡ pieces 0 b (rest s n)
past-start s a b n p pos r e =
    let z : n - 1 + 1 ≡ n = omega arith in
    let k : max a (src s (n - 1)) < min b (next_of (rest s n))
    = rw z at (piece_is a b (entry_at s (n - 1)) (next_of (rest s (n - 1 + 1))) p e).some-of-it in
    pieces-from s a b n (length s / 8 - n)
    (λ j m l. omega (arith, next-some s n (omega arith), in_place (key_at 8 s) (length s / 8) r n j m (omega arith)))

module _ (s : List ℕ) (b last : ℕ) (u : Below s b last) (r : rising (keys 8 s) ≡ true) (bytes : Bytes s) (i : ℕ)
    (h : i < last) where
  abbrev end : ℕ
  end = min b (next_of (rest s (i + 1)))

  -- the piece of record i, if its target is not 0
  abbrev q : Piece
  q = record { at = src s i; size = end - src s i; to = tgt s i }

  abbrev Left : ℕ → List Piece
  Left j = pieces 0 b (rest s j)

  in_table : i < length s / 8
  in_table = let w : last ≤ length s / 8 = u.within in omega arith

  pub some-part : src s i < end
  some-part =
      let in_window : src s i < b = u.before i h in
      ⊎_elim
      (λ (l : i + 1 < length s / 8).
      omega (
        arith,
        next-some s (i + 1) l,
        each (key_at 8 s) 0 (length s / 8) r i (i + 1) (omega arith) (omega arith)
            (omega arith),
      ))
      (λ (l : length s / 8 ≤ i + 1). omega (arith, next-none s (i + 1) l, below 4 s (8 * i) bytes))
      (lt-or-le (i + 1) (length s / 8))

  left-zero : tgt s i ≡ 0 → Left i ≡ Left (i + 1)
  left-zero z = step-none s 0 b i in_table (piece-zero 0 b (entry_at s i) (next_of (rest s (i + 1))) z)

  left-piece : 0 < tgt s i → Left i ≡ q ∷ Left (i + 1)
  left-piece z =
      let e : max 0 (src s i) ≡ src s i = omega arith in
      let f : src s i - src s i + tgt s i ≡ tgt s i = omega arith in
      let p = piece-some 0 b (entry_at s i) (next_of (rest s (i + 1))) (rw e some-part) (λ n. omega arith) in
      step-some s 0 b i in_table q (p ∙ rw (e, f))

  -- what record i adds to the best found
  module _ (from : ℕ) (best : Shared) (m : from < best.target) where
    same : first_shared (Left i) from (best.target - from) ≡ first_shared (Left (i + 1)) from (best.target - from)
        → Better s b i from best best
    same e = record {
      low = omega arith;
      high = omega arith;
      adds = λ d l. ap (λ (o : Option Pair). or_else o
          (found_below d best)) e;
    }

    pub pass-zero : tgt s i ≡ 0 → Better s b i from best best
    pass-zero z = same (ap (λ (l : List Piece). first_shared l from (best.target - from)) (left-zero z))

    module _ (z : 0 < tgt s i) where
      with-piece : first_shared (Left i) from (best.target - from) ≡ first_shared (q ∷ Left (i + 1)) from
          (best.target - from)
      with-piece = ap (λ (l : List Piece). first_shared l from (best.target - from)) (left-piece z)

      pub pass-high : best.target ≤ tgt s i → Better s b i from best best
      pass-high l = same (with-piece ∙ shared-high q (Left (i + 1)) from best.target l)

      pub pass-low : tgt s i + (end - src s i) ≤ from → Better s b i from best best
      pass-low l = same (with-piece ∙ shared-low q (Left (i + 1)) from best.target l)

      -- a target found below the best takes its place
      replaced : (t y : ℕ) → from ≤ t → t < best.target
          → first_shared (Left i) from (best.target - from) ≡ or_else (first_shared (Left (i + 1)) from (t - from))
          (some (record { first = t; second = y }))
          → Better s b i from best (record { target = t; source = y })
      replaced t y l k e = record {
        low = l;
        high = omega arith;
        adds = λ d g. ap (λ (o : Option Pair). or_else o (found_below d best)) e ∙ instead
            (first_shared (Left (i + 1)) from (t - from)) (found_below d best) t y d (omega arith);
      }
        where
          instead : (o p : Option Pair) (t y d : ℕ) → t < d
              → or_else (or_else o (some (record { first = t; second = y }))) p ≡ or_else o
              (found_below d (record { target = t; source = y }))
          instead o p t y d g = rw (lt-ltb t d g) (or_some o (record { first = t; second = y }) p)

      pub hit-first : tgt s i ≤ from → from < tgt s i + (end - src s i)
          → Better s b i from best (record { target = from; source = src s i + (from - tgt s i) })
      unfolding first_shared or_else
      hit-first l k =
          let e : from - from ≡ 0 = omega arith in
          replaced from (src s i + (from - tgt s i)) (omega arith) m
          (with-piece ∙ shared-first q (Left (i + 1)) from best.target m l k
          ∙ sym (ap (λ (n : ℕ). or_else (first_shared (Left (i + 1)) from n)
          (some (record { first = from; second = src s i + (from - tgt s i) }))) e))

      pub hit_later : from < tgt s i → tgt s i < best.target → Better s b i from best
          (record { target = tgt s i; source = src s i })
      hit_later l k =
          let w : src s i < end = some-part in
          replaced (tgt s i) (src s i) (omega arith) k
          (with-piece ∙ shared-here q (Left (i + 1)) from best.target (omega arith) k (omega arith))

-- the search: what the records left give, and the best found, is what all of them give
pub record Searching (s : List ℕ) (b from end start j : ℕ) (best : Shared) : Type 0 where
  pub low : from < best.target
  pub high : best.target ≤ end
  pub all : or_else (first_shared (pieces 0 b (rest s j)) from (best.target - from)) (found_below end best)
      ≡ first_shared (pieces 0 b (rest s start)) from (end - from)

found_none : (o : Option Pair) (end : ℕ) (best : Shared) → end ≤ best.target → or_else o (found_below end best) ≡ o
found_none o end best h = rw (le-ltb best.target end h) (or_nothing o)

module _ (s : List ℕ) (b from end start : ℕ) where
  pub searching-first : from < end → Searching s b from end start start (record { target = end; source = 0 })
  searching-first h = record {
    low = h;
    high = omega arith;
    all = found_none (first_shared (pieces 0 b (rest s start)) from (end - from)) end
        (record { target = end; source = 0 }) (omega arith);
  }

  module _ (j : ℕ) (best : Shared) (w : Searching s b from end start j best) where
    module _ (r : Shared) (k : Better s b j from best r) where
      all_after : or_else (first_shared (pieces 0 b (rest s (j + 1))) from (r.target - from)) (found_below end r)
          ≡ first_shared (pieces 0 b (rest s start)) from (end - from)
      all_after = sym (k.adds end w.high) ∙ w.all

      pub searching-more : from < r.target → Searching s b from end start (j + 1) r
      searching-more h = record { low = h; high = omega (arith, w.high, k.high); all = all_after }

      -- the first target of all is found
      pub searching-found : from < end → r.target ≤ from → some
          (record { first = from; second = r.source }) ≡ first_shared (pieces 0 b (rest s start)) from (end - from)
      unfolding first_shared or_else
      searching-found h l =
          let e : r.target ≡ from = omega (arith, k.low) in
          let z : from - from ≡ 0 = omega arith in
          sym (rw (lt-ltb from end h)) ∙ (rw (e, z) at all_after)

    module _ (last : ℕ) (u : Below s b last) (o : rising (keys 8 s) ≡ true) (h : last ≤ j) where
      best-left : found_below end best ≡ first_shared (pieces 0 b (rest s start)) from (end - from)
      unfolding or_else
      best-left =
          let n : first_shared (pieces 0 b (rest s j)) from (best.target - from) ≡ none
          = ap (λ (l : List Piece). first_shared l from (best.target - from)) (none_after s b last u o 0 j h)
          ∙ shared-nothing (best.target - from) from in
          rw n at w.all

      pub searching-some : best.target < end
          → some (record { first = best.target; second = best.source }) ≡ first_shared (pieces 0 b (rest s start)) from
          (end - from)
      searching-some l = sym (rw (lt-ltb best.target end l)) ∙ best-left

      pub searching-none : end ≤ best.target → none ≡ first_shared (pieces 0 b (rest s start)) from (end - from)
      searching-none l = sym (rw (le-ltb best.target end l)) ∙ best-left
