-- The spans of a trailer, one by one: what those that are left tell is what all tell.
-- Assumes nothing.
use mathlib.Core.Path.{◌≡◌}
use mathlib.Core.Logic.{◌≢◌}
use Prim.Native.Nat.{ℕ, ◌+◌, ◌*◌, ◌≤◌, ◌<◌}
use native.Mathlib.Nat.{add-zero}
use native.Mathlib.Numerals.{add-one}
use mathlib.Core.Bool.{false}
use mathlib.Core.List.{List, ◌∷◌}
use lib.ListN.{length, get_or, drop, drop_of_length-le}
use lib.Seq.{drop-cons}
use lib.Dec.{eqb}
use borrow.Author.Tests.{eq-eqb, ne_eqb}
use Rattle.std.specs.Prelude.{Option as Maybe, Some, None}
use Rattle.lent.specs.Table.{listed}
use Rattle.bundle.specs.declared.Span.{Span}
use Rattle.bundle.specs.Reading.{span_at, spans_at, span_list, touching}

pub all-parts : (s : List ℕ) (at : ℕ) → span_list (spans_at s at) ≡ listed (λ (j : ℕ). span_at s (at + 8 * j)) 0 6
unfolding listed
all-parts s at = rw (add-zero at)

-- an element of a list, and those after it
pub first-left : {A : Type 0} (l : List A) (i : ℕ) (d : A) → i < length l → drop i l ≡ get_or l i d ∷ drop (i + 1) l
first-left l i d h = rw add-one (drop-cons l i d h)

module _ (p e i : ℕ) (l : List (Maybe Span)) (h : i < length l) where
  pub touch-absent : get_or l i None ≡ None → touching p e (drop i l) ≡ touching p e (drop (i + 1) l)
  unfolding touching
  touch-absent q = rw (first-left l i None h, q)

  module _ (x : Span) (q : get_or l i None ≡ Some x) where
    pub touch-here : x.start ≡ p → touching p e (drop i l) ≡ touching (p + x.length) e (drop (i + 1) l)
    unfolding touching
    touch-here r = rw (first-left l i None h, q, eq-eqb x.start p r)

    pub touch-elsewhere : x.start ≢ p → touching p e (drop i l) ≡ false
    unfolding touching
    touch-elsewhere r = rw (first-left l i None h, q, ne_eqb x.start p r)

pub touch-end : (p e i : ℕ) (l : List (Maybe Span)) → length l ≤ i → touching p e (drop i l) ≡ eqb p e
unfolding touching
touch-end p e i l h = rw (drop_of_length-le l h)
