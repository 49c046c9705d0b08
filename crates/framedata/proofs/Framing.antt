-- What stands at a place of a table.
-- Assumes nothing.
use mathlib.Core.Path.{◌≡◌}
use Prim.Native.Nat.{ℕ, ◌≤◌, ◌<◌}
use mathlib.Core.Option.{none, some}
use borrow.Author.Tests.{lt-ltb, le-ltb}
use Rattle.framedata.specs.Records.{before}

module _ {A : Type 0} (f : ℕ → A) (n i : ℕ) where
  pub there : i < n → before n f i ≡ some (f i)
  there h = rw (lt-ltb i n h)

  pub used-up : n ≤ i → before n f i ≡ none
  used-up h = rw (le-ltb i n h)
