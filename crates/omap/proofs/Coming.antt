-- The pieces that a cursor has still to yield: each step yields the first of them.
-- Assumes nothing.
use mathlib.Core.Path.{◌≡◌, refl, ap}
use mathlib.Core.Logic.{⊎_elim}
use Prim.Native.Nat.{ℕ, zero, suc, ◌+◌, ◌/◌, ◌≤◌, ◌<◌, max, min}
use native.Mathlib.Omega.{arith}
use native.Mathlib.Nat.{eq-zero-or-pos}
use mathlib.Core.Bool.{Bool, true, false, cond, ◌&&◌}
use mathlib.Core.List.{List, [], ◌∷◌}
use mathlib.Core.Option.{none, some}
use lib.ListN.{length}
use borrow.Author.Tests.{lt-ltb, le-leb}
use Rattle.lent.specs.Words.{put}
use Rattle.lent.specs.Paper.{Told, value, nothing, refused, unless, and_then}
use Rattle.lent.specs.Table.{if_present, omap_shape}
use Rattle.lent.specs.Order.{rising_after}
use Rattle.lent.proofs.Logic.{lt-or-le}
use Rattle.lent.proofs.Place.{listed-step, listed-end}
use Rattle.omap.specs.Records.{Entry, entry_at, rest, sources}
use Rattle.omap.specs.Window.{Piece, next_of, piece_of, pieces}
use Rattle.omap.specs.Output.{beside_start, fits, all_fit, sum_fault, flat}
use Rattle.omap.specs.Turn.{Turn, on, pulled, turn_with, end_of, turns}
use Rattle.omap.specs.Step.{piece, refused_at, piece_or, first_piece}
use Rattle.omap.specs.Yields.{yielded, yields, entries}
use Rattle.omap.specs.declared.cursor.Cursor.{Cursor}
use Rattle.omap.proofs.Last.{first_above, rest-above}
use Rattle.omap.proofs.Pieces.{piece-empty, piece-zero, piece-some}
use Rattle.omap.proofs.Turns.{part-zero, part-some, walk, walk-done, step-good}

-- the pieces that are still to come, where l are the records not yet pulled
abbrev pub come : Cursor → List Entry → List Piece
come c l = pieces c.address c.end (on c ∷ l)

-- while the window is not used up, the cursor is inside its record, and the records not yet pulled lie ahead, in order
pub record Inside (c : Cursor) (l : List Entry) : Type 0 where
  pub small : c.end ≤ 4294967295
  pub begun : c.address < c.end → c.source ≤ c.address
  pub ahead : c.address < c.end → rising_after c.address (sources l) ≡ true

pub empty-window : (a b : ℕ) → b ≤ a → (l : List Entry) → pieces a b l ≡ []
unfolding pieces put
empty-window a b h [] = refl
empty-window a b h (x ∷ l) = rw (piece-empty a b x (next_of l) (omega arith)) (empty-window a b h l)

piece-same : (a d b : ℕ) (x : Entry) (e : ℕ) → a ≤ x.source → d ≤ x.source → piece_of a b x e ≡ piece_of d b x e
unfolding piece_of
piece-same a d b x e h l =
    let m : max a x.source ≡ max d x.source = omega arith in
    rw m

-- the window may begin anywhere before the first source
pieces-same : (a d b p : ℕ) (l : List Entry) → rising_after p (sources l) ≡ true → a ≤ p → d ≤ p
    → pieces a b l ≡ pieces d b l
unfolding pieces
pieces-same a d b p [] r h m = refl
pieces-same a d b p (x ∷ l) r h m =
    let up : p < x.source = first_above p x l r in
    rw (
      piece-same a d b x (next_of l) (omega arith) (omega arith),
      pieces-same a d b x.source l (rest-above p x l r)
          (omega arith) (omega arith),
    )

module _ (c : Cursor) (x : Entry) (l : List Entry) (p : ℕ) (i : Inside c (x ∷ l)) (h : c.address < c.end) where
  up : c.address < x.source
  up = first_above c.address x l (i.ahead h)

  after : rising_after x.source (sources l) ≡ true
  after = rest-above c.address x l (i.ahead h)

  -- the cursor that has pulled the next record is inside it
  inside-next : Inside (pulled x p c) l
  inside-next = record {
    small = i.small;
    begun = λ q. omega arith;
    ahead = λ q. let e : min x.source c.end ≡ x.source = omega arith in rw e after;
  }

  from_next : pieces c.address c.end (x ∷ l) ≡ come (pulled x p c) l
  unfolding pieces
  from_next =
      rw (
        piece-same c.address (min x.source c.end) c.end x (next_of l) (omega (arith, up))
            (omega arith),
        pieces-same c.address (min x.source c.end) c.end x.source l after
            (omega (arith, up)) (omega arith),
      )

  come-zero : c.target ≡ 0 → come c (x ∷ l) ≡ come (pulled x p c) l
  unfolding pieces put next_of
  come-zero z = rw (piece-zero c.address c.end (on c) x.source z) from_next

  come-mapped : (c.target ≡ 0 → ⊥) → come c (x ∷ l) ≡ (turn_with x p c).part ∷ come (pulled x p c) l
  unfolding pieces put next_of
  come-mapped z =
      let b = i.begun h in
      let u = up in
      let m : max c.address c.source ≡ c.address = omega arith in
      let n : min c.end x.source ≡ min x.source c.end = omega arith in
      rw (piece-some c.address c.end (on c) x.source (omega arith) z, m, n)
      (ap (λ (k : List Piece). (turn_with x p c).part ∷ k) from_next)

-- what is yielded of pieces one at a time, where out is yielded of those after the first
abbrev one_piece : (List Piece → Told (List ℕ)) → List Piece → Told (List ℕ)
one_piece out [] = value []
one_piece out (p ∷ l) = cond (fits p) (and_then (out l) (λ (k : List ℕ). value (p.to ∷ (beside_start p ∷ k)))) (refused 4)

module _ (then : Cursor → Told (List ℕ)) (out : List Piece → Told (List ℕ)) where
  by-fit : (t : Bool) (f e : ℕ) (c₀ k : Cursor) (q : List Piece) → then k ≡ out q
      → yielded (cond t (piece f e k) (refused_at 4 c₀)) then ≡ cond t
      (and_then (out q) (λ (j : List ℕ). value (f ∷ (e ∷ j)))) (refused 4)
  by-fit true f e c₀ k q s = rw s
  by-fit false f e c₀ k q s = refl

  -- a turn with x, where what follows is known
  turn-yields : (c₀ c : Cursor) (x : Entry) (l : List Entry) (p : ℕ) (ts : List Turn) → Inside c (x ∷ l)
      → c.address < c.end
      → then (pulled x p c) ≡ out (come (pulled x p c) l)
      → yielded (first_piece c₀ (pulled x p c) ts) then ≡ one_piece out (come (pulled x p c) l)
      → yielded (first_piece c₀ c (turn_with x p c ∷ ts)) then ≡ one_piece out (come c (x ∷ l))
  unfolding first_piece piece_or
  turn-yields c₀ c x l p ts i h s g =
      ⊎_elim
      (λ (z : c.target ≡ 0). rw (part-zero x p c z, come-zero c x l p i h z) g)
      (λ (z : 0 < c.target).
      let u : c.address < x.source = up c x l p i h in
      let t = turn_with x p c in
      rw (
        part-some x p c (omega arith) (λ q. omega arith),
        le-leb c.source c.address
            (i.begun h),
        come-mapped c x l p i h (λ q. omega arith),
      )
      (by-fit (fits t.part) t.part.to (beside_start t.part) c₀ (pulled x p c) (come (pulled x p c) l) s))
      (eq-zero-or-pos c.target)

piece-end : (a b : ℕ) (x : Entry) → b ≤ 4294967295 → piece_of a b x 4294967296 ≡ piece_of a b x b
unfolding piece_of
piece-end a b x h =
    let m : min b 4294967296 ≡ min b b = omega arith in
    rw m

come-end : (c : Cursor) → c.end ≤ 4294967295 → come c [] ≡ come c (end_of c ∷ [])
unfolding pieces put next_of
come-end c h = rw (piece-end c.address c.end (on c) h, piece-zero c.address c.end (end_of c) 4294967296 refl)

inside-end : (c : Cursor) → Inside c [] → c.address < c.end → Inside c (end_of c ∷ [])
unfolding rising_after
inside-end c i h = record { small = i.small; begun = i.begun; ahead = λ q. rw (lt-ltb c.address c.end h) }

-- the records that the table has from a cursor's place on
tail-is : (s : List ℕ) (i : ℕ) (x : Entry) (l : List Entry) → rest s i ≡ x ∷ l → rest s (i + 1) ≡ l
tail-is s i x l e =
    ⊎_elim
    (λ (h : i < length s / 8). let f = listed-step (entry_at s) i (length s / 8) h in cc)
    (λ (h : length s / 8 ≤ i). let f = listed-end (entry_at s) i (length s / 8) h in cc)
    (lt-or-le i (length s / 8))

module _ (s : List ℕ) (then : Cursor → Told (List ℕ)) (out : List Piece → Told (List ℕ))
    (known : (k : Cursor) (l : List Entry) → rest s k.place ≡ l → Inside k l → then k ≡ out (come k l)) where
  used-up : (l : List Entry) (c₀ c : Cursor) → c.end ≤ c.address → yielded (walk c₀ l c) then ≡ one_piece out
      (come c l)
  used-up l c₀ c h = rw (walk-done l c₀ c h, empty-window c.address c.end h (on c ∷ l))

  -- a step yields the first piece to come
  walk-yields : (l : List Entry) (c₀ c : Cursor) → rest s c.place ≡ l → Inside c l → yielded
      (walk c₀ l c) then ≡ one_piece out (come c l)
  unfolding turns first_piece
  walk-yields [] c₀ c at i =
      ⊎_elim
      (λ (h : c.address < c.end).
      let k = pulled (end_of c) c.place c in
      let there : Inside c (end_of c ∷ []) = inside-end c i h in
      rw (lt-ltb c.address c.end h, come-end c i.small)
      (turn-yields then out c₀ c (end_of c) [] c.place [] there h
      (known k [] at (inside-next c (end_of c) [] c.place there h))
      (rw (empty-window k.address k.end (omega arith) (on k ∷ [])))))
      (λ (h : c.end ≤ c.address). used-up [] c₀ c h)
      (lt-or-le c.address c.end)
  walk-yields (x ∷ l) c₀ c at i =
      ⊎_elim
      (λ (h : c.address < c.end).
      let next : Inside (pulled x (c.place + 1) c) l = inside-next c x l (c.place + 1) i h in
      let more : rest s (c.place + 1) ≡ l = tail-is s c.place x l at in
      rw (lt-ltb c.address c.end h)
      (turn-yields then out c₀ c x l (c.place + 1) (turns l (pulled x (c.place + 1) c)) i h
      (known (pulled x (c.place + 1) c) l more next)
      (walk-yields l c₀ (pulled x (c.place + 1) c) more next)))
      (λ (h : c.end ≤ c.address). used-up (x ∷ l) c₀ c h)
      (lt-or-le c.address c.end)

-- what n steps yield of the pieces to come
pub steps : ℕ → List Piece → Told (List ℕ)
steps zero l = nothing
steps (suc n) l = one_piece (steps n) l

module _ (present : Bool) (s : List ℕ) (shaped : none ≡ omap_shape (if_present present s)) where
  pub yields-steps : (n : ℕ) (c : Cursor) (l : List Entry) → rest (if_present present s) c.place ≡ l → Inside c l
      → yields present s n c ≡ steps n (come c l)
  unfolding yields steps
  yields-steps zero c l at i = refl
  yields-steps (suc n) c l at i =
      rw (step-good present s (if_present present s) c refl shaped, at)
      (walk-yields (if_present present s) (yields present s n) (steps n) (yields-steps n) l c c at i)

both : (f g : Bool) (x y : ℕ) (l : List ℕ)
    → cond f (and_then (unless (cond g none (some 4)) (value l)) (λ (k : List ℕ). value (x ∷ (y ∷ k)))) (refused 4)
    ≡ unless (cond (f && g) none (some 4)) (value (x ∷ (y ∷ l)))
both true true x y l = refl
both true false x y l = refl
both false g x y l = refl

-- more steps than pieces yield all of them
pub steps_all : (n : ℕ) (l : List Piece) → length l < n → steps n l ≡ entries l
unfolding steps entries sum_fault all_fit flat
steps_all zero l h = absurd (omega arith)
steps_all (suc n) [] h = refl
steps_all (suc n) (p ∷ l) h = rw (steps_all n l (omega arith))
    (both (fits p) (all_fit l) p.to (beside_start p) (flat l))

not-early : (f : Bool) (t : Told (List ℕ)) (x y : ℕ) → (t ≡ refused 6 → ⊥) → cond f
    (and_then t (λ (k : List ℕ). value (x ∷ (y ∷ k)))) (refused 4) ≡ refused 6 → ⊥
not-early true (value l) x y g e = let z : ◌≡◌ {A = ℕ} 0 1 = cc in omega arith
not-early true nothing x y g e = let z : ◌≡◌ {A = ℕ} 0 1 = cc in omega arith
not-early true (refused n) x y g e = g e
not-early false t x y g e = let z : ◌≡◌ {A = ℕ} 4 6 = cc in omega arith

pub steps-early : (n : ℕ) (l : List Piece) → steps n l ≡ refused 6 → ⊥
unfolding steps
steps-early zero l e = let z : ◌≡◌ {A = ℕ} 0 1 = cc in omega arith
steps-early (suc n) [] e = let z : ◌≡◌ {A = ℕ} 0 1 = cc in omega arith
steps-early (suc n) (p ∷ l) e = not-early (fits p) (steps n l) p.to (beside_start p) (steps-early n l) e
