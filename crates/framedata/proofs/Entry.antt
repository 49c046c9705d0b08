-- Where an iteration that starts at an address begins, in tables in order.
--   `starts-there`   the place found in each table is as `Entered` says
--   `one-entered`    and no other place is
-- Assumes nothing.
use mathlib.Core.Path.{◌≡◌, refl, sym, ◌∙◌, subst}
use mathlib.Core.Logic.{inl, inr, ⊎_elim}
use Prim.Native.Nat.{ℕ, ◌-◌, ◌/◌, ◌≤◌, ◌<◌}
use native.Mathlib.Nat.{eq-or-lt_of_le, eq-zero-or-pos}
use native.Mathlib.Omega.{arith}
use mathlib.Core.Bool.{true, false}
use mathlib.Core.List.{List}
use mathlib.Core.Option.{Option, none, some}
use lib.ListN.{length}
use Rattle.lent.specs.Paper.{value, unless}
use Rattle.lent.specs.Order.{rising, keys, key_at, FirstAbove}
use Rattle.lent.proofs.Logic.{which, lt-or-le}
use Rattle.lent.specs.Search.{binary_search}
use Rattle.lent.proofs.Rising.{each}
use Rattle.lent.proofs.Search.{first_above}
use Rattle.framedata.specs.Records.{Span, span_at, spans}
use Rattle.framedata.specs.Tables.{fault_of_both}
use Rattle.framedata.specs.Start.{covers, place_spec, Entered, start_spec}
use Rattle.framedata.specs.declared.cursor.FrameCursor.{FrameCursor}
use Rattle.framedata.proofs.Picking.{differ}
use Rattle.framedata.proofs.Entering.{hit, enter-first, enter-before, enter-after, both-good}

module _ (w : ℕ) (s : List ℕ) (a : ℕ) where
  abbrev n : ℕ
  n = length s / w

  abbrev f : ℕ → ℕ
  f = key_at w s

  -- of two places the later is none
  not-later : (k m : ℕ) → Entered w s a k → Entered w s a m → k < m → ⊥
  not-later k m x y h =
      let inside : m ≤ n = y.within in
      let below : f k < a = y.before k h in
      ⊎_elim
      (λ (c : covers a (span_at w s k) ≡ true).
      ⊎_elim
      (λ (e : k ≡ m - 1).
      let l = y.later (omega arith) (subst (λ (j : ℕ). covers a (span_at w s j) ≡ true) e c) in
      omega (arith, l.1, x.after m h l.0))
      (λ (l : k < m - 1). omega (arith, x.after (m - 1) l (omega arith), y.before (m - 1) (omega arith)))
      (eq-or-lt_of_le (omega arith)))
      (λ (g : a < f k). omega arith)
      (x.there (omega arith))

  pub one-entered : (k m : ℕ) → Entered w s a k → Entered w s a m → k ≡ m
  one-entered k m x y =
      ⊎_elim
      (λ (h : k < m). absurd (not-later k m x y h))
      (λ (h : m ≤ k). ⊎_elim (λ (e : m ≡ k). sym e) (λ (l : m < k). absurd (not-later m k y x l)) (eq-or-lt_of_le h))
      (lt-or-le k m)

  module _ (r : rising (keys w s) ≡ true) where
    from_first : FirstAbove w s a 0 → Entered w s a 0
    from_first u =
        record {
          within = omega arith;
          before = λ j h. absurd (omega arith);
          after = λ j h l. u.above j (omega arith) l;
          there = λ h. inr (u.above 0 (omega arith) h);
          later = λ h c. absurd (omega arith);
        }

    module _ (k : ℕ) (pos : 0 < k) (u : FirstAbove w s a k) where
      abbrev x : Span
      x = span_at w s (k - 1)

      -- records before the one just before the address begin before it
      earlier : (j : ℕ) → j < k - 1 → f j < a
      earlier j h =
          let at : f (k - 1) ≤ a = u.below (k - 1) (omega arith) in
          omega (arith, each f 0 n r j (k - 1) (omega arith) h (omega (arith, u.within)))

      from-before : covers a x ≡ true → Entered w s a (k - 1)
      from-before c =
          record {
            within = omega (arith, u.within);
            before = earlier;
            after = λ j h l. u.above j (omega arith) l;
            there = λ h. inl c;
            later = λ h d. (omega (arith, u.within), u.below (k - 1) (omega arith));
          }

      from-after : covers a x ≡ false → Entered w s a k
      from-after c =
          let miss : f (k - 1) < a
          = ⊎_elim
          (λ (e : f (k - 1) ≡ a). absurd (differ (sym c ∙ hit a x e)))
          (λ (l : f (k - 1) < a). l)
          (eq-or-lt_of_le (u.below (k - 1) (omega arith))) in
          record {
            within = u.within;
            before = λ j h. ⊎_elim
                (λ (e : j ≡ k - 1). subst (λ (y : ℕ). f y < a) (sym e) miss) (earlier j) (eq-or-lt_of_le (omega arith));
            after = λ j h l. u.above j (omega arith) l;
            there = λ h. inr (u.above k (omega arith) h);
            later = λ h d. absurd (differ (sym c ∙ d));
          }

      by_cases : Entered w s a (place_spec a (spans w s))
      by_cases =
          ⊎_elim
          (λ (c : covers a x ≡ true). subst (Entered w s a) (sym (enter-before w s a k pos u c)) (from-before c))
          (λ (c : covers a x ≡ false). subst (Entered w s a) (sym (enter-after w s a k pos u c)) (from-after c))
          (which (covers a x))

    pub entered : Entered w s a (place_spec a (spans w s))
    entered =
        let u = first_above w s a r in
        ⊎_elim
        (λ (e : (binary_search w s a).place ≡ 0).
        let z : FirstAbove w s a 0 = subst (FirstAbove w s a) e u in
        subst (Entered w s a) (sym (enter-first w s a z)) (from_first z))
        (λ (h : 0 < (binary_search w s a).place). by_cases (binary_search w s a).place h u)
        (eq-zero-or-pos (binary_search w s a).place)

-- a value is told where nothing is refused
told-value : (fault : Option ℕ) (x y : FrameCursor) → unless fault (value x) ≡ value y → (fault ≡ none) × (x ≡ y)
told-value none x y e = (refl, cc)
told-value (some m) x y e = (cc, cc)

-- the place in each table of the cursor that starts at an address
pub starts-there : (a : ℕ) (s t : List ℕ) (c : FrameCursor) → start_spec a s t ≡ value c
    → Entered 16 s a c.old_index × Entered 32 t a c.new_index
unfolding start_spec
starts-there a s t c e =
    let g = told-value (fault_of_both s t) _ c e in
    let r = both-good s t g.0 in (
      subst (λ (d : FrameCursor). Entered 16 s a d.old_index) g.1 (entered 16 s a r.0),
      subst (λ (d : FrameCursor). Entered 32 t a d.new_index) g.1 (entered 32 t a r.1),
    )
