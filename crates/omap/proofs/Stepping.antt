-- Stepping a started cursor to its end yields the pieces of the whole-window call, in order.
-- Assumes nothing.
use mathlib.Core.Path.{◌≡◌, refl, sym, ap, ◌∙◌}
use mathlib.Core.Logic.{⊎_elim}
use Prim.Native.Nat.{ℕ, zero, suc, ◌+◌, ◌-◌, ◌/◌, ◌≤◌, ◌<◌}
use native.Mathlib.Omega.{arith}
use native.Mathlib.Nat.{zero-add}
use mathlib.Core.Bool.{Bool, true, false}
use mathlib.Core.List.{List, [], ◌∷◌}
use mathlib.Core.Option.{Option, none, some}
use lib.ListN.{length, drop}
use borrow.Author.Tests.{lt-ltb, le-leb, lt-leb}
use Rattle.lent.specs.Words.{or_else, put}
use Rattle.lent.specs.Paper.{value, refused, first_fault, unless}
use Rattle.lent.specs.Table.{listed, omap_shape, shape_fault}
use Rattle.lent.specs.Order.{rising_after, rising, order_fault, table_fault, omap_fault, last_at}
use Rattle.lent.proofs.Logic.{lt-or-le}
use Rattle.lent.proofs.Rising.{after-rising}
use Rattle.omap.specs.Records.{Entry, entry_at, records, rest, sources, holder_of}
use Rattle.omap.specs.Window.{next_of, pieces, window_pieces}
use Rattle.omap.specs.Output.{all_fit, sum_fault, flat}
use Rattle.omap.specs.Step.{count_up_to, onto, start_on, start_spec}
use Rattle.omap.specs.Yields.{yields, entries}
use Rattle.omap.specs.declared.cursor.Cursor.{Cursor}
use Rattle.omap.proofs.Last.{sources-keys, in_order, first_above, rest-above}
use Rattle.omap.proofs.Pieces.{piece-empty, piece-zero}
use Rattle.omap.proofs.Expansion.{above-none}
use Rattle.omap.specs.Turn.{on}
use Rattle.omap.proofs.Coming.{empty-window, steps, yields-steps, steps_all, steps-early}

-- where a cursor starts: x is the last of some records at or below a, and l those after it
record Begins (a b : ℕ) (all : List Entry) (x : Entry) (l : List Entry) : Type 0 where
  pub same : pieces a b all ≡ pieces a b (x ∷ l)
  pub below : x.source ≤ a
  pub ahead : rising_after a (sources l) ≡ true

abbrev or_here : Option Entry → Entry → Entry
or_here none x = x
or_here (some y) x = y

here-or : (o : Option Entry) (x y : Entry) → or_here (or_else o (some y)) x ≡ or_here o y
unfolding or_else
here-or none x y = refl
here-or (some z) x y = refl

above-up : (p a : ℕ) (l : List Entry) → rising_after p (sources l) ≡ true → a ≤ p → count_up_to a l ≡ 0
unfolding count_up_to
above-up p a [] r h = refl
above-up p a (x ∷ l) r h =
    let up : p < x.source = first_above p x l r in
    rw (lt-leb x.source a (omega arith)) (above-up x.source a l (rest-above p x l r) (omega arith))

skip_first : (a b : ℕ) (x y : Entry) (l : List Entry) → y.source ≤ a → pieces a b (x ∷ (y ∷ l)) ≡ pieces a b (y ∷ l)
unfolding pieces put next_of
skip_first a b x y l h = rw (piece-empty a b x y.source (omega arith))

begins : (a b : ℕ) (x : Entry) (l : List Entry) → rising (sources l) ≡ true → x.source ≤ a
    → Begins a b (x ∷ l) (or_here (holder_of a l) x) (drop (count_up_to a l) l)
unfolding rising rising_after last_at count_up_to or_else
begins a b x [] r h = record { same = refl; below = h; ahead = refl }
begins a b x (y ∷ l) r h =
    ⊎_elim
    (λ (q : a < y.source).
    rw (lt-leb y.source a q, above-none y.source a l r (omega arith), above-up y.source a l r (omega arith))
    (record { same = refl; below = h; ahead = rw (lt-ltb a y.source q) r }))
    (λ (q : y.source ≤ a).
    let i = begins a b y l (after-rising y.source (sources l) r) q in
    rw (le-leb y.source a q, here-or (holder_of a l) x y)
    (record { same = skip_first a b x y l q ∙ i.same; below = i.below; ahead = i.ahead }))
    (lt-or-le a y.source)

-- the record that a cursor is on before the first source
abbrev nowhere : Entry
nowhere = record { source = 0; target = 0 }

drop-listed : {A : Type 0} (f : ℕ → A) (k i n : ℕ) → drop k (listed f i n) ≡ listed f (i + k) (n - k)
unfolding listed
drop-listed f zero i n =
    let e : i + zero ≡ i = omega arith in
    let g : n - zero ≡ n = omega arith in
    rw (e, g)
drop-listed f (suc k) i zero =
    let g : 0 - suc k ≡ 0 = omega arith in
    rw g
drop-listed f (suc k) i (suc n) =
    let e : i + suc k ≡ suc i + k = omega arith in
    let g : suc n - suc k ≡ n - k = omega arith in
    rw (e, g) (drop-listed f k (suc i) n)

rest-is : (s : List ℕ) (k : ℕ) → rest s k ≡ drop k (records s)
unfolding records
rest-is s k = sym (drop-listed (entry_at s) k 0 (length s / 8) ∙ ap (λ (i : ℕ). listed (entry_at s) i (length s / 8 - k))
    (zero-add k))

no-shape : (f g : Option ℕ) → first_fault f g ≡ none → none ≡ f
no-shape none g e = refl
no-shape (some n) g e = cc

module _ (s : List ℕ) (a b : ℕ) (good : omap_fault s ≡ none) (w : b ≤ 4294967295) (n : ℕ) where
  shaped : none ≡ omap_shape s
  unfolding table_fault
  shaped = no-shape (omap_shape s) (order_fault 8 s) good

  start-record : (all l : List Entry) (o : Option Entry) (p : ℕ) → rest s p ≡ l → Begins a b all (or_here o nowhere) l
      → yields true s n (onto a b p o) ≡ steps n (pieces a b all)
  start-record all l none p at st =
      yields-steps true s shaped n (onto a b p none) l at
      (record { small = w; begun = λ q. st.below; ahead = λ q. st.ahead }) ∙ ap (steps n) (sym st.same)
  start-record all l (some x) p at st =
      yields-steps true s shaped n (onto a b p (some x)) l at
      (record { small = w; begun = λ q. st.below; ahead = λ q. st.ahead }) ∙ ap (steps n) (sym st.same)

  start-yields : yields true s n (start_on (records s) a b) ≡ steps n (pieces a b (records s))
  unfolding start_on pieces put
  start-yields =
      ⊎_elim
      (λ (h : a < b).
      let r : rising (sources (records s)) ≡ true = ap rising (sources-keys s) ∙ in_order s good in
      let z : pieces a b (nowhere ∷ records s) ≡ pieces a b
      (records s) = rw (piece-zero a b nowhere (next_of (records s)) refl) in
      rw (lt-leb b a h)
      (start-record (nowhere ∷ records s) (drop (count_up_to a (records s)) (records s)) (holder_of a (records s))
      (count_up_to a (records s)) (rest-is s (count_up_to a (records s)))
      (begins a b nowhere (records s) r (omega arith)) ∙ ap (steps n) z))
      (λ (h : b ≤ a).
      let c : Cursor = record { address = 0; end = 0; source = 0; target = 0; place = length (records s) } in
      rw (le-leb b a h)
      (yields-steps true s shaped n c (rest s c.place) refl
      (record { small = omega arith; begun = λ q. omega arith; ahead = λ (q : 0 < 0). absurd (omega arith) })
      ∙ ap (steps n) (empty-window 0 0 (omega arith) (on c ∷ rest s c.place) ∙ sym
      (empty-window a b h (records s)))))
      (lt-or-le a b)

is-good : (f : Option ℕ) (k c : Cursor) → unless f (value k) ≡ value c → (f ≡ none) × (k ≡ c)
is-good none k c e = (refl, (cc))
is-good (some n) k c e = ((cc), (cc))

module _ (s : List ℕ) (a b : ℕ) (c : Cursor) where
  started : start_spec true s a b ≡ value c → (omap_fault s ≡ none) × (start_on (records s) a b ≡ c)
  unfolding start_spec
  started e = is-good (omap_fault s) (start_on (records s) a b) c e

  started_none : start_spec false s a b ≡ value c
      → record { address = a; end = b; source = a; target = a; place = 0 } ≡ c
  unfolding start_spec
  started_none e = cc

-- n steps of a started cursor
started-yields : (present : Bool) (s : List ℕ) (a b : ℕ) (c : Cursor) → start_spec present s a b ≡ value c → b ≤ 4294967295
    → (n : ℕ)
    → yields present s n c ≡ steps n (window_pieces present s a b)
unfolding shape_fault listed rising_after
started-yields true s a b c e w n =
    let g = started s a b c e in
    ap (yields true s n) (sym g.1) ∙ start-yields s a b g.0 w n
started-yields false s a b c e w n =
    ap (yields false s n) (sym (started_none s a b c e))
    ∙ yields-steps false s refl n (record { address = a; end = b; source = a; target = a; place = 0 }) [] refl
    (record { small = w; begun = λ q. omega arith; ahead = λ q. refl })

-- A started cursor, stepped to its end, yields the pieces of the whole-window call as pairs, in order, and then it is
-- done; or it is refused 4 where that call is. One step more than there are pieces is enough.
pub stepping : (present : Bool) (s : List ℕ) (a b : ℕ) (c : Cursor) → start_spec present s a b ≡ value c → b ≤ 4294967295
    → (n : ℕ) → length (window_pieces present s a b) < n → yields present s n c ≡ entries (window_pieces present s a b)
stepping present s a b c e w n h = started-yields present s a b c e w n ∙ steps_all n (window_pieces present s a b) h

-- the same where every piece fits: nothing is refused
pub stepping-fits : (present : Bool) (s : List ℕ) (a b : ℕ) (c : Cursor) → start_spec present s a b ≡ value c
    → b ≤ 4294967295
    → all_fit (window_pieces present s a b) ≡ true
    → (n : ℕ) → length (window_pieces present s a b) < n → yields present s n c ≡ value (flat (window_pieces present s a b))
unfolding entries sum_fault
stepping-fits present s a b c e w f n h = stepping present s a b c e w n h ∙ rw f

-- a started cursor never meets refusal 6
pub never-early : (present : Bool) (s : List ℕ) (a b : ℕ) (c : Cursor) → start_spec present s a b ≡ value c
    → b ≤ 4294967295
    → (n : ℕ) → yields present s n c ≡ refused 6 → ⊥
never-early present s a b c e w n r = steps-early n (window_pieces present s a b)
    (sym (started-yields present s a b c e w n) ∙ r)
