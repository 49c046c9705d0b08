-- Which record comes next, from plain facts.
-- Assumes nothing.
use mathlib.Core.Path.{◌≡◌, sym, subst}
use mathlib.Core.Logic.{⊎_elim}
use Prim.Native.Nat.{ℕ, ◌/◌, ◌≤◌, ◌<◌}
use native.Mathlib.Omega.{arith}
use mathlib.Core.Bool.{true, false}
use mathlib.Core.List.{List}
use mathlib.Core.Option.{Option, none, some}
use lib.ListN.{length}
use borrow.Author.Tests.{lt-ltb, le-ltb}
use Rattle.lent.proofs.Logic.{lt-or-le}
use Rattle.framedata.specs.Records.{OldFrame, NewFrame, old_record, new_record, old_at, new_at}
use Rattle.framedata.specs.Step.{Pick, old, new, both, lesser, pick}
use Rattle.framedata.proofs.Framing.{there, used-up}

module _ (o : OldFrame) (n : NewFrame) where
  abbrev pub a : ℕ
  a = o.span.code_start

  abbrev pub b : ℕ
  b = n.span.code_start

  pub old-lesser : a < b → lesser o n ≡ old o
  unfolding lesser
  old-lesser h = rw (lt-ltb a b h)

  pub new-lesser : b < a → lesser o n ≡ new n
  unfolding lesser
  new-lesser h = rw (le-ltb a b (omega arith), lt-ltb b a h)

  pub equal : b ≡ a → lesser o n ≡ both n o
  unfolding lesser
  equal h = rw (le-ltb a b (omega arith), le-ltb b a (omega arith))

  -- to show a thing of the lesser of two records, show it in three cases
  pub by-lesser : (P : Pick → Type 0) → (a < b → P (old o)) → (b < a → P (new n)) → (b ≡ a → P (both n o))
      → P (lesser o n)
  by-lesser P below above same =
      ⊎_elim
      (λ (h : a < b). subst P (sym (old-lesser h)) (below h))
      (λ (h : b ≤ a).
      ⊎_elim
      (λ (l : b < a). subst P (sym (new-lesser l)) (above l))
      (λ (l : a ≤ b). let e : b ≡ a = omega arith in subst P (sym (equal e)) (same e))
      (lt-or-le b a))
      (lt-or-le a b)

pub differ : false ≡ true → ⊥
differ e = let z : ◌≡◌ {A = ℕ} 0 1 = cc in omega arith

-- what comes next at place i of the old table and place j of the new one
module _ (s t : List ℕ) (i j : ℕ) where
  abbrev n : ℕ
  n = length s / 16

  abbrev m : ℕ
  m = length t / 32

  abbrev picked : Option Pick
  picked = pick (old_at s i) (new_at t j)

  pub none_left : n ≤ i → m ≤ j → picked ≡ none
  none_left h l = rw (used-up (old_record s) n i h, used-up (new_record t) m j l)

  pub only-new : n ≤ i → j < m → picked ≡ some (new (new_record t j))
  only-new h l = rw (used-up (old_record s) n i h, there (new_record t) m j l)

  pub only-old : i < n → m ≤ j → picked ≡ some (old (old_record s i))
  only-old h l = rw (there (old_record s) n i h, used-up (new_record t) m j l)

  pub two-left : i < n → j < m → picked ≡ some (lesser (old_record s i) (new_record t j))
  two-left h l = rw (there (old_record s) n i h, there (new_record t) m j l)
