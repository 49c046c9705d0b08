-- What the callers of `attributes` know of it, whichever bits it reads.
-- Assumes nothing.
use Prim.Native.Nat.{ℕ, ◌≤◌}
use native.Mathlib.Omega.{arith}
use Rattle.framedata.specs.Attributes.{attributes}

-- there are at most seven saved registers
pub few_saved : (word : ℕ) → (attributes word).saved_regs ≤ 7
unfolding attributes
few_saved word = omega arith
