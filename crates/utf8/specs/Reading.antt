-- How far a text is read, as functions of this crate hand it on. No public promise cites this file.
use Rattle.std.specs.Prelude.{◌≡◌, ℕ, ◌+◌, ◌≤◌, List, length, drop}
use Rattle.std.proofs.Math.Option.{Option}
use Rattle.utf8.specs.Text.{before_zero}
use Rattle.utf8.specs.Utf8.{Range, completes, utf8}

-- the part before the first zero from place i on
abbrev pub left : List ℕ → ℕ → List ℕ
left s i = before_zero (drop i s)

-- at place i: what is due and what is left of the text tell as much as the whole of it
pub record Reading (s : List ℕ) (due : Option (List Range)) (i : ℕ) : Type 0 where
  pub until : i ≤ length s
  pub long : i + length (left s i) ≡ length (before_zero s)
  pub right : completes due (left s i) ≡ utf8 (before_zero s)
