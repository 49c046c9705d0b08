-- Where a table in order is entered, from the place of the first record above the address.
-- Assumes nothing.
use mathlib.Core.Path.{◌≡◌, refl, sym, subst}
use Prim.Native.Nat.{ℕ, ◌+◌, ◌-◌, ◌*◌, ◌≤◌, ◌<◌}
use native.Mathlib.Omega.{arith}
use mathlib.Core.Bool.{true, false, cond}
use mathlib.Core.List.{List}
use mathlib.Core.Option.{Option, none, some}
use lib.ListN.{length}
use borrow.Author.Tests.{eq-eqb}
use Rattle.lent.specs.Le.{le_at}
use Rattle.lent.specs.Paper.{first_fault}
use Rattle.lent.specs.Table.{old_frame_table, new_frame_table}
use Rattle.lent.specs.Order.{rising, keys, old_frame_fault, new_frame_fault, last_at, FirstAbove}
use Rattle.lent.specs.Search.{binary_search}
use Rattle.lent.proofs.Last.{in_order, found, found_none}
use Rattle.lent.proofs.Place.{inside}
use Rattle.lent.proofs.Search.{first_above}
use Rattle.framedata.specs.Records.{Span, span_at, spans}
use Rattle.framedata.specs.Tables.{fault_of_both}
use Rattle.framedata.specs.Start.{covers, place_spec}

pub hit : (a : ℕ) (x : Span) → x.code_start ≡ a → covers a x ≡ true
hit a x e = rw (eq-eqb x.code_start a e)

abbrev start : Span → ℕ
start x = x.code_start

module _ (w : ℕ) (s : List ℕ) (a : ℕ) where
  -- before the first record
  pub enter-first : FirstAbove w s a 0 → place_spec a (spans w s) ≡ 0
  unfolding place_spec
  enter-first u = rw (found_none start (span_at w s) w s a (λ j. refl) u)

  module _ (k : ℕ) (pos : 0 < k) (u : FirstAbove w s a k) where
    last : last_at start a (spans w s) ≡ some (span_at w s (k - 1))
    last = found start (span_at w s) w s a (λ j. refl) k pos u

    enter : place_spec a (spans w s) ≡ cond (covers a (span_at w s (k - 1))) (k - 1) k
    unfolding place_spec
    enter = let e : k - 1 + 1 ≡ k = omega arith in rw (last, e)

    pub enter-before : covers a (span_at w s (k - 1)) ≡ true → place_spec a (spans w s) ≡ k - 1
    enter-before e = rw e at enter

    pub enter-after : covers a (span_at w s (k - 1)) ≡ false → place_spec a (spans w s) ≡ k
    enter-after e = rw e at enter

-- What is known of the place that a search finds, and of the record just before it.
module _ (w : ℕ) (s : List ℕ) (a : ℕ) (ordered : rising (keys w s) ≡ true) where
  above : FirstAbove w s a (binary_search w s a).place
  above = first_above w s a ordered

  pub found_first : (binary_search w s a).place ≡ 0 → place_spec a (spans w s) ≡ 0
  found_first e = enter-first w s a (subst (FirstAbove w s a) e above)

  module _ (h : 1 ≤ (binary_search w s a).place) where
    pub found_inside : w * ((binary_search w s a).place - 1) + w ≤ length s
    found_inside = inside w (length s) ((binary_search w s a).place - 1) (omega (arith, above.within))

    pub found_begins : le_at 4 s (w * ((binary_search w s a).place - 1)) ≤ a
    found_begins = above.below ((binary_search w s a).place - 1) (omega arith)

    pub found_enters : place_spec a (spans w s)
        ≡ cond (covers a (span_at w s ((binary_search w s a).place - 1))) ((binary_search w s a).place - 1)
        (binary_search w s a).place
    found_enters = enter w s a (binary_search w s a).place h above

pub ruleset place_found = (found_first, found_inside, found_begins, found_enters)

-- tables that are not refused are in order
pub old_in_order : (s : List ℕ) → none ≡ old_frame_fault s → rising (keys 16 s) ≡ true
old_in_order s e = in_order old_frame_table s (sym e)

pub new_in_order : (t : List ℕ) → none ≡ new_frame_fault t → rising (keys 32 t) ≡ true
new_in_order t e = in_order new_frame_table t (sym e)

pub ruleset tables_in_order = (old_in_order, new_in_order)

first-none : (x y : Option ℕ) → first_fault x y ≡ none → (none ≡ x) × (none ≡ y)
first-none none y e = (refl, sym e)
first-none (some n) y e = (cc, cc)

pub both-good : (s t : List ℕ) → fault_of_both s t ≡ none → (rising (keys 16 s) ≡ true) × (rising (keys 32 t) ≡ true)
both-good s t e =
    let g = first-none (old_frame_fault s) (new_frame_fault t) e in
    (old_in_order s g.0, new_in_order t g.1)
