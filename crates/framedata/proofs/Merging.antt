-- What merging two lists of records keeps: every new record, every old one that is not passed over, and the order.
-- Assumes nothing.
use mathlib.Core.Path.{◌≡◌, refl, sym, ap, subst}
use Prim.Native.Nat.{ℕ, ◌<◌}
use mathlib.Core.Bool.{Bool, true}
use mathlib.Core.List.{List, [], ◌∷◌, map}
use lib.Dec.{ltb}
use borrow.Author.Tests.{lt-ltb, ltb-true, eq-eqb}
use Rattle.lent.specs.Order.{rising_after, rising}
use Rattle.lent.proofs.Rising.{after-rising}
use Rattle.lent.proofs.Logic.{and_left, and_right}
use Rattle.framedata.specs.Records.{OldFrame, NewFrame}
use Rattle.framedata.specs.Frame.{from_old, from_new}
use Rattle.framedata.specs.Step.{Pick, old, new, both}
use Rattle.framedata.specs.Merge.{followed, merge, starts_of, news_of, olds_of, passed_on_equality}
use Rattle.framedata.proofs.Picking.{by-lesser}

abbrev pub old_start : OldFrame → ℕ
old_start o = o.span.code_start

abbrev pub new_start : NewFrame → ℕ
new_start n = n.span.code_start

abbrev pub old_starts : List OldFrame → List ℕ
old_starts os = map old_start os

abbrev pub new_starts : List NewFrame → List ℕ
new_starts ns = map new_start ns

-- the first number, if there is one, is greater than x
abbrev starts_after : ℕ → List ℕ → Bool
starts_after x [] = true
starts_after x (y ∷ l) = ltb x y

-- to show a thing of a merge, show it of no records, and that it is kept by each kind of pick
pub by-merge : (P : List OldFrame → List NewFrame → List Pick → Type 0)
    → P [] [] []
    → ((o : OldFrame) (os : List OldFrame) (ns : List NewFrame) (l : List Pick)
    → starts_after (old_start o) (new_starts ns) ≡ true → P os ns l → P (o ∷ os) ns (old o ∷ l))
    → ((n : NewFrame) (os : List OldFrame) (ns : List NewFrame) (l : List Pick)
    → starts_after (new_start n) (old_starts os) ≡ true → P os ns l → P os (n ∷ ns) (new n ∷ l))
    → ((n : NewFrame) (o : OldFrame) (os : List OldFrame) (ns : List NewFrame) (l : List Pick) → new_start n ≡ old_start o
    → P os ns l → P (o ∷ os) (n ∷ ns) (both n o ∷ l))
    → (os : List OldFrame) (ns : List NewFrame) → P os ns (merge os ns)
unfolding merge
by-merge P none one two three [] [] = none
by-merge P none one two three [] (n ∷ ns) = two n [] ns (merge [] ns) refl (by-merge P none one two three [] ns)
by-merge P none one two three (o ∷ os) [] = one o os [] (merge os []) refl (by-merge P none one two three os [])
by-merge P none one two three (o ∷ os) (n ∷ ns) =
    by-lesser o n (λ (p : Pick). P (o ∷ os) (n ∷ ns) (followed p (merge os (n ∷ ns)) (merge (o ∷ os) ns) (merge os ns)))
    (λ h.
    one o os (n ∷ ns) (merge os (n ∷ ns)) (lt-ltb (old_start o) (new_start n) h)
    (by-merge P none one two three os (n ∷ ns)))
    (λ h.
    two n (o ∷ os) ns (merge (o ∷ os) ns) (lt-ltb (new_start n) (old_start o) h)
    (by-merge P none one two three (o ∷ os) ns))
    (λ e. three n o os ns (merge os ns) e (by-merge P none one two three os ns))

-- every new record is yielded, once and in order
pub every-new : (os : List OldFrame) (ns : List NewFrame) → news_of (merge os ns) ≡ ns
unfolding news_of
every-new =
    by-merge (λ os ns l. news_of l ≡ ns) refl
    (λ o os ns l h k. k)
    (λ n os ns l h k. ap (λ (m : List NewFrame). n ∷ m) k)
    (λ n o os ns l e k. ap (λ (m : List NewFrame). n ∷ m) k)

-- every old record is yielded or passed over, once and in order
pub every-old : (os : List OldFrame) (ns : List NewFrame) → olds_of (merge os ns) ≡ os
unfolding olds_of
every-old =
    by-merge (λ os ns l. olds_of l ≡ os) refl
    (λ o os ns l h k. ap (λ (m : List OldFrame). o ∷ m) k)
    (λ n os ns l h k. k)
    (λ n o os ns l e k. ap (λ (m : List OldFrame). o ∷ m) k)

-- and it is passed over only for a new one with its code_start
pub passed-on-equality : (os : List OldFrame) (ns : List NewFrame) → passed_on_equality (merge os ns) ≡ true
unfolding passed_on_equality
passed-on-equality =
    by-merge (λ os ns l. passed_on_equality l ≡ true) refl
    (λ o os ns l h k. k)
    (λ n os ns l h k. k)
    (λ n o os ns l e k. rw (eq-eqb n.span.code_start o.span.code_start e) k)

module _ (p x : ℕ) (l : List ℕ) where
  up : rising_after p (x ∷ l) ≡ true → p < x
  unfolding rising_after
  up r = ltb-true p x (and_left (ltb p x) (rising_after x l) r)

  on : rising_after p (x ∷ l) ≡ true → rising_after x l ≡ true
  unfolding rising_after
  on r = and_right (ltb p x) (rising_after x l) r

  put : p < x → rising_after x l ≡ true → rising_after p (x ∷ l) ≡ true
  unfolding rising_after
  put h r = rw (lt-ltb p x h) r

after_first : (x : ℕ) (l : List ℕ) → starts_after x l ≡ true → rising l ≡ true → rising_after x l ≡ true
unfolding rising rising_after
after_first x [] h r = refl
after_first x (y ∷ l) h r = put x y l (ltb-true x y h) r

-- the code starts rise, and do so after any p that both lists rise after
pub record Rises (os : List OldFrame) (ns : List NewFrame) (l : List Pick) : Type 0 where
  pub after : (p : ℕ) → rising_after p (old_starts os) ≡ true → rising_after p (new_starts ns) ≡ true
      → rising_after p (starts_of l) ≡ true
  pub whole : rising (old_starts os) ≡ true → rising (new_starts ns) ≡ true → rising (starts_of l) ≡ true

-- what comes first begins after p, and the others rise after it
first : (p x : ℕ) (l m : List ℕ) → rising_after p (x ∷ m) ≡ true → rising_after x l ≡ true → rising_after p (x ∷ l) ≡ true
first p x l m r k = put p x l (up p x m r) k

module _ (os : List OldFrame) (ns : List NewFrame) (l : List Pick) where
  rises-old : (o : OldFrame) → starts_after (old_start o) (new_starts ns) ≡ true → Rises os ns l
      → Rises (o ∷ os) ns (old o ∷ l)
  unfolding rising from_old
  rises-old o h k =
      let x = old_start o in
      let on-new = after_first x (new_starts ns) h in
      record {
        after = λ p r q. first p x (starts_of l) (old_starts os) r
            (k.after x (on p x (old_starts os) r) (on-new (after-rising p (new_starts ns) q)));
        whole = λ r q. k.after x r (on-new q);
      }

  rises-new : (n : NewFrame) → starts_after (new_start n) (old_starts os) ≡ true → Rises os ns l
      → Rises os (n ∷ ns) (new n ∷ l)
  unfolding rising from_new
  rises-new n h k =
      let x = new_start n in
      let on-old = after_first x (old_starts os) h in
      record {
        after = λ p r q. first p x (starts_of l) (new_starts ns) q
            (k.after x (on-old (after-rising p (old_starts os) r)) (on p x (new_starts ns) q));
        whole = λ r q. k.after x (on-old r) q;
      }

  rises-both : (n : NewFrame) (o : OldFrame) → new_start n ≡ old_start o → Rises os ns l
      → Rises (o ∷ os) (n ∷ ns) (both n o ∷ l)
  unfolding rising from_new
  rises-both n o e k =
      let x = new_start n in
      let on-old : rising_after (old_start o) (old_starts os) ≡ true → rising_after x (old_starts os) ≡ true
      = subst (λ (y : ℕ). rising_after y (old_starts os) ≡ true) (sym e) in
      record {
        after = λ p r q. first p x (starts_of l) (new_starts ns) q
            (k.after x (on-old (on p (old_start o) (old_starts os) r)) (on p x (new_starts ns) q));
        whole = λ r q. k.after x (on-old r) q;
      }

-- where both lists rise strictly, so do the code starts that are yielded
pub merge-rises : (os : List OldFrame) (ns : List NewFrame)
    → rising (old_starts os) ≡ true → rising (new_starts ns) ≡ true → rising (starts_of (merge os ns)) ≡ true
merge-rises os ns =
    (by-merge Rises (record { after = λ p r q. r; whole = λ r q. r })
    (λ o os ns l h k. rises-old os ns l o h k)
    (λ n os ns l h k. rises-new os ns l n h k)
    (λ n o os ns l e k. rises-both os ns l n o e k)
    os ns).whole
