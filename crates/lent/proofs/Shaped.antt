-- What a table that passes the test of its shape is known to be.
-- Assumes nothing.
use mathlib.Core.Path.{◌≡◌, refl}
use Prim.Native.Nat.{ℕ, ◌/◌, ◌%◌, ◌≤◌}
use mathlib.Core.Bool.{Bool, true, false, cond}
use mathlib.Core.List.{List}
use mathlib.Core.Option.{Option, none, some}
use lib.ListN.{length}
use lib.Dec.{leb, eqb}
use borrow.Author.Tests.{leb-true}
use Rattle.lent.specs.Table.{Kind, shape_fault}

few : (a b : Bool) → ◌≡◌ {A = Option ℕ} none (cond a (cond b none (some 2)) (some 1)) → b ≡ true
few true true e = refl
few true false e = cc
few false b e = cc

pub at_most : (k : Kind) (s : List ℕ) → none ≡ shape_fault k s → length s / k.width ≤ k.most
unfolding shape_fault
at_most k s e = leb-true (length s / k.width) k.most
    (few (eqb (length s % k.width) 0) (leb (length s / k.width) k.most) e)
