-- The walk over a window's pieces: where it may begin, where it may stop, and what it finds on the way.
-- Assumes nothing.
use mathlib.Core.Path.{◌≡◌, refl, ap, ◌∙◌}
use mathlib.Core.Logic.{◌⊎◌, inl, inr, ⊎_elim}
use Prim.Native.Nat.{ℕ, zero, suc, ◌+◌, ◌-◌, ◌*◌, ◌/◌, ◌≤◌, ◌<◌, max, min}
use native.Mathlib.Omega.{arith}
use mathlib.Core.Bool.{true, false}
use mathlib.Core.List.{List, []}
use mathlib.Core.Option.{none, some}
use lib.ListN.{length}
use Rattle.lent.specs.Words.{put}
use Rattle.lent.specs.Le.{le_at}
use Rattle.lent.specs.Table.{listed}
use Rattle.lent.specs.Order.{key_at, keys, rising, FirstAbove}
use Rattle.lent.proofs.Logic.{lt-or-le}
use Rattle.lent.proofs.Rising.{in_place}
use Rattle.omap.specs.Records.{entry_at, rest}
use Rattle.omap.specs.Window.{next_of, pieces, itself}
use Rattle.omap.specs.Walk.{part_at, left, Below, Begins, Found}
use Rattle.omap.proofs.Last.{src}
use Rattle.omap.proofs.Pieces.{next-some, next-none, between, piece-empty, piece-zero, piece-some, step-none}
use Rattle.omap.proofs.Pieces.{step-some, all_first, none_left, past_all}

-- the target of the record at place j
abbrev pub tgt : List ℕ → ℕ → ℕ
tgt s j = le_at 4 s (8 * j + 4)

module _ (s : List ℕ) where
  pub below-zero : (b : ℕ) → b ≡ 0 → Below s b 0
  below-zero b z = record { within = omega arith; before = λ j h. absurd (omega arith); after = λ j h l. omega arith }

  pub below-some : (b r : ℕ) → 0 < b → FirstAbove 8 s (b - 1) r → Below s b r
  below-some b r pos u = record {
    within = u.within;
    before = λ j h. omega (arith, u.below j h);
    after = λ j h l.
        omega (arith, u.above j h l);
  }

  pub begins-at-all : (a : ℕ) → Begins s a 0
  begins-at-all a b = ap (pieces a b) (all_first s)

  -- in order, the records before the last one at or below a have no piece from a on
  begins : (a k : ℕ) → FirstAbove 8 s a k → (i : ℕ) → i < k → Begins s a i
  begins a k u zero h b = begins-at-all a b
  begins a k u (suc i) h b =
      let w : k ≤ length s / 8 = u.within in
      let at : src s (i + 1) ≤ a = u.below (i + 1) (omega arith) in
      let e : part_at s a b i ≡ none = piece-empty a b (entry_at s i) (next_of (rest s (i + 1)))
      (omega (arith, next-some s (i + 1) (omega arith))) in
      let f : i + 1 ≡ suc i = omega arith in
      begins a k u i (omega arith) b ∙ step-none s a b i (omega arith) e ∙ ap (λ (q : ℕ). pieces a b (rest s q)) f

  pub begins-before : (a k : ℕ) → FirstAbove 8 s a k → Begins s a (k - 1)
  begins-before a zero u = begins-at-all a
  begins-before a (suc k) u = let e : suc k - 1 ≡ k = omega arith in rw e (begins a (suc k) u k (omega arith))

  module _ (b last : ℕ) (u : Below s b last) where
    -- from the first record at or past b on there are no pieces
    pub none_after : rising (keys 8 s) ≡ true → (a j : ℕ) → last ≤ j → pieces a b (rest s j) ≡ []
    none_after r a j h =
        ⊎_elim
        (λ (m : j < length s / 8).
        past_all s a b j (length s / 8 - j)
        (λ k q l. omega (arith, u.after j h m, in_place (key_at 8 s) (length s / 8) r j k q (omega arith))))
        (λ (m : length s / 8 ≤ j). none_left s a b j m)
        (lt-or-le j (length s / 8))

    -- where the addresses of a record below b end
    pub ends_next : (i : ℕ) → i + 1 < last → src s (i + 1) ≡ min b (next_of (rest s (i + 1)))
    ends_next i h =
        let w : last ≤ length s / 8 = u.within in
        omega (arith, next-some s (i + 1) (omega arith), u.before (i + 1) h)

    pub ends_last : b ≤ 4294967295 → (i : ℕ) → last ≤ i + 1 → b ≡ min b (next_of (rest s (i + 1)))
    ends_last m i h =
        ⊎_elim
        (λ (l : i + 1 < length s / 8). omega (arith, next-some s (i + 1) l, u.after (i + 1) h l))
        (λ (l : length s / 8 ≤ i + 1). omega (arith, next-none s (i + 1) l))
        (lt-or-le (i + 1) (length s / 8))

-- one record of the walk: it has no piece, or it has the one between lo and hi
module _ (s : List ℕ) (a b j : ℕ) (h : j < length s / 8) (i : ℕ)
    (same : pieces a b (rest s i) ≡ pieces a b (rest s j)) where
  pub walk-zero : tgt s j ≡ 0 → pieces a b (rest s i) ≡ pieces a b (rest s (j + 1))
  walk-zero z = same ∙ step-none s a b j h (piece-zero a b (entry_at s j) (next_of (rest s (j + 1))) z)

  module _ (lo hi : ℕ) (lo-is : lo ≡ max a (src s j)) (hi-is : hi ≡ min b (next_of (rest s (j + 1)))) where
    pub walk-empty : hi ≤ lo → pieces a b (rest s i) ≡ pieces a b (rest s (j + 1))
    walk-empty l = same ∙ step-none s a b j h (piece-empty a b (entry_at s j) (next_of (rest s (j + 1))) (omega arith))

    module _ (l : lo < hi) (z : tgt s j ≡ 0 → ⊥) where
      here : part_at s a b j ≡ some (between (entry_at s j) lo hi)
      here = rw (lo-is, hi-is) (piece-some a b (entry_at s j) (next_of (rest s (j + 1))) (omega arith) z)

      pub walk-found : i ≤ j → b ≤ 4294967295 → Found true s a b i (between (entry_at s j) lo hi) (j + 1)
      walk-found m short =
          let e : j + 1 - 1 ≡ j = omega arith in
          record {
            first = same ∙ step-some s a b j h (between (entry_at s j) lo hi) here;
            owned = ap (part_at s a b) e ∙ here;
            some-of-it = omega arith;
            inside = omega arith;
            short = short;
            further = omega arith;
          }

-- the one piece of an absent table
module _ (s : List ℕ) (a b : ℕ) where
  -- none, where its one record is passed, or the window starts at 0 or is empty
  pub absent-none : (i : ℕ) → ((i ≡ 0 → ⊥) ⊎ ((a ≡ 0) ⊎ (b ≤ a))) → left false s a b i ≡ []
  unfolding pieces put next_of
  absent-none zero (inl z) = absurd (z refl)
  absent-none zero (inr (inl z)) = rw (piece-zero a b (itself a) 4294967296 z)
  absent-none zero (inr (inr h)) = rw (piece-empty a b (itself a) 4294967296 (omega arith))
  absent-none (suc i) h = refl

  pub absent-found : (i : ℕ) → i ≡ 0 → (a ≡ 0 → ⊥) → a < b → b ≤ 4294967295 → Found false s a b i
      (record { at = a; size = b - a; to = a }) 1
  unfolding pieces put next_of
  absent-found i o z h l =
      let e : max a a ≡ a = omega arith in
      let f : min b 4294967296 ≡ b = omega arith in
      let g : a - a + a ≡ a = omega arith in
      let p = rw (e, f, g) at (piece-some a b (itself a) 4294967296 (omega arith) z) in
      rw o (record {
        first = rw p;
        owned = p;
        some-of-it = omega arith;
        inside = omega arith;
        short = l;
        further = omega arith;
      })

-- an absent table counts as empty: it is in order, and no record begins below b
pub none-rises : rising (keys 8 []) ≡ true
unfolding rising listed
none-rises = refl

pub none-below : (b : ℕ) → Below [] b 0
none-below b = record { within = omega arith; before = λ j h. absurd (omega arith); after = λ j h l. absurd (omega arith) }
