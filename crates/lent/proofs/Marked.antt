-- A table behind a mark, as C lends it, and the same as an optional one: what is said of the one holds of the other.
-- Assumes nothing.
use mathlib.Core.Path.{◌≡◌, refl}
use Prim.Native.Nat.{ℕ}
use mathlib.Core.Bool.{Bool, true, false, cond}
use mathlib.Core.List.{List, []}
use Rattle.std.specs.Prelude.{Option as Maybe, Some, None, is_some}
use Rattle.std.specs.Borrow.{Bor}
use Rattle.lent.specs.Table.{if_present, bytes_of}

pub present-as : (present : Bool) (t : Bor (List ℕ)) → is_some (cond present (Some t) None) ≡ present
present-as true t = refl
present-as false t = refl

-- the bytes of a table, none where it is marked absent
pub bytes-as : (present : Bool) (t : Bor (List ℕ)) → bytes_of (cond present (Some t) None) ≡ if_present present t.now
bytes-as true t = refl
bytes-as false t = refl

-- an optional table counts as empty where it is absent
pub bytes-there : (t : Maybe (Bor (List ℕ))) → bytes_of t ≡ if_present (is_some t) (bytes_of t)
bytes-there (Some t) = refl
bytes-there None = refl

-- what depends on the mark, and on the bytes only where they are present
pub marked : {A : Type 0} (f : Bool → List ℕ → A) → ((s : List ℕ) → f false [] ≡ f false s)
    → (present : Bool) (t : Bor (List ℕ)) (r : Maybe (Bor (List ℕ))) → r ≡ cond present (Some t) None
    → f (is_some r) (bytes_of r) ≡ f present t.now
marked f none true t r e = rw e
marked f none false t r e = rw e (none t.now)
