-- What the walk over a window's pieces hands to those that go by it. No public promise cites this file.
use Rattle.std.specs.Prelude.{ℕ, zero, suc, ◌+◌, ◌-◌, ◌/◌, ◌≤◌, ◌<◌, ◌≡◌, Bool, true, false, List, [], ◌∷◌, length, is_some}
use Rattle.std.specs.Prelude.{Option as Maybe}
use Rattle.std.specs.Borrow.{Bor}
use Rattle.std.proofs.Math.Option.{Option, some}
use Rattle.lent.specs.Order.{key_at}
use Rattle.lent.specs.Table.{bytes_of}
use Rattle.omap.specs.Records.{entry_at, records, rest}
use Rattle.omap.specs.Window.{Piece, next_of, piece_of, pieces, itself, identity}

-- the piece of the record at place i
abbrev pub part_at : List ℕ → ℕ → ℕ → ℕ → Option Piece
part_at s a b i = piece_of a b (entry_at s i) (next_of (rest s (i + 1)))

-- the pieces of the records from place i on; the record that stands in for an absent table has place 0
abbrev pub left : Bool → List ℕ → ℕ → ℕ → ℕ → List Piece
left true s a b i = pieces a b (rest s i)
left false s a b zero = pieces a b (identity a)
left false s a b (suc i) = []

-- the piece of the record just before place n
abbrev pub part_before : Bool → List ℕ → ℕ → ℕ → ℕ → Option Piece
part_before true s a b n = part_at s a b (n - 1)
part_before false s a b n = piece_of a b (itself a) 4294967296

-- the records before place r, and no others, begin below b
pub record Below (s : List ℕ) (b r : ℕ) : Type 0 where
  pub within : r ≤ length s / 8
  pub before : (j : ℕ) → j < r → key_at 8 s j < b
  pub after : (j : ℕ) → r ≤ j → j < length s / 8 → b ≤ key_at 8 s j

-- the same of a table that is there; of an absent one nothing is said
abbrev pub Until : Maybe (Bor (List ℕ)) → ℕ → ℕ → Type 0
Until table b r = is_some table ≡ true → Below (bytes_of table) b r

-- the records before place r have no piece from a on
abbrev pub Begins : List ℕ → ℕ → ℕ → Type 0
Begins s a r = (b : ℕ) → pieces a b (records s) ≡ pieces a b (rest s r)

-- p is the first piece from place i on, and n is the place after its record
pub record Found (present : Bool) (s : List ℕ) (a b i : ℕ) (p : Piece) (n : ℕ) : Type 0 where
  pub first : left present s a b i ≡ p ∷ left present s a b n
  pub owned : part_before present s a b n ≡ some p
  pub some-of-it : 0 < p.size
  pub inside : p.at + p.size ≤ b
  pub short : b ≤ 4294967295
  pub further : i < n
