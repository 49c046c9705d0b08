-- Parts as they are lent, one by one: what those that are left add to what is written.
-- Assumes nothing.
use mathlib.Core.Path.{◌≡◌, refl, ap}
use Prim.Native.Nat.{ℕ, ◌+◌, ◌≤◌, ◌<◌}
use mathlib.Core.Bool.{Bool, true, false, cond}
use mathlib.Core.Option.{Option}
use mathlib.Core.List.{List, [], ◌∷◌, ◌++◌, map}
use lib.ListN.{length, get_or, drop, drop_of_length-le}
use Rattle.std.specs.Prelude.{Option as Maybe, Some, None}
use Rattle.std.specs.Borrow.{Bor}
use Rattle.std.specs.Option.{unwrap_or}
use Rattle.lent.specs.Le.{le_bytes}
use Rattle.lent.specs.Table.{bytes_of}
use Rattle.bundle.specs.declared.Span.{Span}
use Rattle.bundle.specs.Layout.{bytes_in, span_from, joined, spans_from, fields, all_fields}
use Rattle.bundle.specs.Writing.{part_of, part_lent, lent_parts, parts_of}
use Rattle.bundle.proofs.Touching.{first-left}

-- the bytes of a part; an absent one has none
pub bytes-lent : (x : Maybe (Bor (List ℕ))) → bytes_of x ≡ bytes_in (part_lent x)
bytes-lent None = refl
bytes-lent (Some part) = refl

-- a part behind a mark, as C lends it, is the same as an optional one
pub lent-as : (present : Bool) (t : Bor (List ℕ)) → part_lent (cond present (Some t) None) ≡ part_of present t.now
lent-as true t = refl
lent-as false t = refl

pub parts-as : (a b c d e f : Bool) (r s t u v w : Bor (List ℕ)) → parts_of (record {
  original_sections = cond a (Some r) None;
  transformed_sections = cond b (Some s) None;
  to_original = cond c (Some t) None;
  to_transformed = cond d (Some u) None;
  old_frames = cond e (Some v) None;
  new_frames = cond f (Some w) None;
}) ≡ lent_parts a r.now b s.now c t.now d u.now e v.now f w.now
parts-as a b c d e f r s t u v w = rw (lent-as a r, lent-as b s, lent-as c t, lent-as d u, lent-as e v, lent-as f w)

-- the fields of a part, which are all bits where it is absent
pub fields-or : (x : Maybe Span) → le_bytes 4 (unwrap_or x (record { start = 4294967295; length = 4294967295 })).start
    ++ le_bytes 4 (unwrap_or x (record { start = 4294967295; length = 4294967295 })).length ≡ fields x
unfolding fields
fields-or None = refl
fields-or (Some x) = refl

-- the parts from place i on
abbrev pub parts_left : List (Maybe (Bor (List ℕ))) → ℕ → List (Option (List ℕ))
parts_left l i = map part_lent (drop i l)

module _ (l : List (Maybe (Bor (List ℕ)))) (i : ℕ) where
  pub none_left : length l ≤ i → parts_left l i ≡ []
  none_left h = rw (drop_of_length-le l h)

  module _ (h : i < length l) where
    one_left : parts_left l i ≡ part_lent (get_or l i None) ∷ parts_left l (i + 1)
    one_left = ap (map part_lent) (first-left l i None h)

    -- the bytes of one part, and those of the others
    pub joined-left : joined (parts_left l i) ≡ bytes_of (get_or l i None) ++ joined (parts_left l (i + 1))
    unfolding joined
    joined-left = rw (one_left, bytes-lent (get_or l i None))

    -- the fields of one part, and those of the others
    pub fields-left : (p : ℕ) → all_fields (spans_from p (parts_left l i))
        ≡ fields (span_from p (part_lent (get_or l i None)))
        ++ all_fields (spans_from (p + length (bytes_of (get_or l i None))) (parts_left l (i + 1)))
    unfolding spans_from all_fields
    fields-left p = rw (one_left, bytes-lent (get_or l i None))
