-- A piece of the code in the terms of these definitions, and where it goes as the code shows it.
use Rattle.omap.specs.Output.{beside_start}
use Rattle.omap.specs.Window.{Piece}
use Rattle.omap.specs.declared.piece.Piece as code
use Rattle.omap.specs.declared.piece.Range.{Range}

abbrev pub told_piece : code.Piece → Piece
told_piece p = record { at = p.at; size = p.size; to = p.to }

-- a piece's start, and what it shows beside it
abbrev pub as_range : Piece → Range
as_range p = record { start = p.to; end = beside_start p }
