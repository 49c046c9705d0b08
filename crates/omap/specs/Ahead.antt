-- The walk over a window's pieces as it goes on: what is still to come. No public promise of the face cites this file.
use Rattle.std.specs.Prelude.{ℕ, ◌≡◌, List, [], Result, Ok, Err, Option as Maybe, Some, None, is_some}
use Rattle.std.specs.Borrow.{Bor}
use Rattle.std.specs.Iterator.{YieldsFirstBy}
use Rattle.std.proofs.Math.Option.{none, some}
use Rattle.lent.specs.Paper.{number}
use Rattle.lent.specs.Table.{bytes_of}
use Rattle.lent.specs.declared.refusal.Refusal.{Refusal}
use Rattle.omap.specs.Window.{Piece, window_pieces}
use Rattle.omap.specs.Output.{marked_fault}
use Rattle.omap.specs.Told.{told_piece}
use Rattle.omap.specs.Walk.{left, Found}
use Rattle.omap.specs.declared.piece.Piece as code
use Rattle.omap.specs.declared.walk.Next.{Next}
use Rattle.omap.specs.declared.walk.Pieces.{Pieces}

-- the pieces still to come
abbrev pub ahead : Pieces → List Piece
ahead p = left (is_some p.table) (bytes_of p.table) p.a p.b p.next

-- p goes over the pieces of the window a..b of a table
pub record GoesOver (table : Maybe (Bor (List ℕ))) (a b : ℕ) (p : Pieces) : Type 0 where
  pub of : p.table ≡ table
  pub start : p.a ≡ a
  pub end : p.b ≡ b
  pub all : window_pieces (is_some table) (bytes_of table) a b ≡ ahead p

-- a walk is begun, or the table is refused
abbrev pub Begun : Maybe (Bor (List ℕ)) → ℕ → ℕ → Result Pieces Refusal → Type 0
Begun table a b (Ok p) = (none ≡ marked_fault (is_some table) (bytes_of table)) × GoesOver table a b p
Begun table a b (Err why) = some (number why) ≡ marked_fault (is_some table) (bytes_of table)

-- the first piece still to come, with the place after its record; none if there is no more
abbrev pub NextIs : Pieces → Maybe Next → Type 0
NextIs p (Some n) = Found (is_some p.table) (bytes_of p.table) p.a p.b p.next (told_piece n.piece) n.after
NextIs p None = ahead p ≡ []

-- q is where the walk p is once it has passed a piece
pub record PassedBy (p : Pieces) (x : code.Piece) (q : Pieces) : Type 0 where
  pub of : q.table ≡ p.table
  pub start : q.a ≡ p.a
  pub end : q.b ≡ p.b
  pub until : q.last ≡ p.last
  pub found : Found (is_some p.table) (bytes_of p.table) p.a p.b p.next (told_piece x) q.next

abbrev pub Passed : Pieces → Maybe code.Piece → Pieces → Type 0
Passed p (Some x) q = PassedBy p x q
Passed p None q = Unit {0}

-- what a step of the walk gives: the first piece still to come, and what is left is still to come
abbrev pub Gives : Pieces → Maybe code.Piece → Pieces → Type 0
Gives p r q = YieldsFirstBy told_piece ahead p r q × Passed p r q
