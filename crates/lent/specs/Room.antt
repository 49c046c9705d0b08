-- Calls that write into lent memory: what they answer, and what they leave in it.
use Rattle.std.specs.Prelude.{ℕ, ◌+◌, ◌≤◌, ◌≡◌, cond, List, ◌++◌, length, drop, leb}
use Rattle.std.proofs.Math.Option.{Option, none, some}
use Rattle.std.proofs.lemmas.List.Edits.{sets}

-- entries at the front of lent memory, and the rest of it as it was
abbrev pub written_over : {A : Type 0} → List A → List A → List A
written_over entries out = entries ++ drop (length entries) out

-- an answer: so many entries are written; a refusal; a refusal that tells how many entries are needed
pub data Written : Type 0 where
  counted : ℕ → Written
  refused_as : ℕ → Written
  refused_for : ℕ → ℕ → Written

-- n entries; or 5, and the number needed, if there are more than the room holds
unfoldable pub room_for : ℕ → ℕ → Written
room_for n room = cond (leb n room) (counted n) (refused_for 5 n)

-- a refusal for another reason, if there is one, comes first
abbrev pub unless_fault : Option ℕ → Written → Written
unless_fault none w = w
unless_fault (some n) w = refused_as n

-- only a call that is not refused writes
abbrev pub out_after : {A : Type 0} → Written → List A → List A → List A
out_after (counted n) entries out = written_over entries out
out_after (refused_as n) entries out = out
out_after (refused_for n k) entries out = out

-- bytes are written over lent bytes from a place on, inside them, and the place after them is answered
pub record Wrote (given before : List ℕ) (at r : ℕ) (after : List ℕ) : Type 0 where
  pub place : r ≡ at + length given
  pub bytes : after ≡ sets before at given
  pub room : at + length given ≤ length before
