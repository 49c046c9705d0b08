-- The turns of a range cursor, as the body of `RangeIter::next` takes them: each passes the part of the window that one
-- record owns, up to the source of the next one.
use Rattle.std.specs.Prelude.{ℕ, ◌+◌, ◌-◌, min, cond, List, [], ◌∷◌, ltb}
use Rattle.omap.specs.Records.{Entry}
use Rattle.omap.specs.Window.{Piece}
use Rattle.omap.specs.declared.cursor.Cursor.{Cursor}

-- the record that a cursor is on
abbrev pub on : Cursor → Entry
on c = record { source = c.source; target = c.target }

-- the cursor once it has pulled x, with p as the place after it
abbrev pub pulled : Entry → ℕ → Cursor → Cursor
pulled x p c = record {
  address = min x.source
      c.end;
  end = c.end;
  source = x.source;
  target = x.target;
  place = p;
}

-- a turn: the record that owns the part, the part up to the next source, translated, and the cursor behind it
pub record Turn : Type 0 where
  pub owner : Entry
  pub part : Piece
  pub after : Cursor

abbrev pub turn_with : Entry → ℕ → Cursor → Turn
turn_with x p c =
    record {
      owner = on c;
      part = record {
        at = c.address;
        size = min x.source
            c.end - c.address;
        to = c.address - c.source + c.target;
      };
      after = pulled x p c;
    }

-- past the last record it is as if there were one at the window's end whose target is 0
abbrev pub end_of : Cursor → Entry
end_of c = record { source = c.end; target = 0 }

-- the turns until the window is used up, where l are the records not yet pulled
unfoldable pub turns : List Entry → Cursor → List Turn
turns [] c = cond (ltb c.address c.end) (turn_with (end_of c) c.place c ∷ []) []
turns (x ∷ l) c =
    cond (ltb c.address c.end) (turn_with x (c.place + 1) c ∷ turns l (pulled x (c.place + 1) c)) []
