-- A number of some bytes, the least byte first: read from lent bytes, and as bytes to write.
use Rattle.std.specs.Prelude.{ℕ, zero, suc, ◌+◌, ◌*◌, ◌/◌, ◌%◌, List, [], ◌∷◌, get_or}

-- the number of w bytes at a place
unfoldable pub le_at : ℕ → List ℕ → ℕ → ℕ
le_at zero s at = 0
le_at (suc w) s at = get_or s at 0 + 256 * le_at w s (suc at)

-- the w bytes of a number
unfoldable pub le_bytes : ℕ → ℕ → List ℕ
le_bytes zero n = []
le_bytes (suc w) n = n % 256 ∷ le_bytes w (n / 256)
