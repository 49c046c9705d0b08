-- What is known of an input that was taken.
use Rattle.std.specs.Prelude.{ℕ, List, Result, IfOk}
use Rattle.io.specs.Counts.{IsPrefixLen}

-- where it is whole its number of bytes stands at the start of the buffer
abbrev pub Held : {E : Type 0} → Result ℕ E → List ℕ → Type 0
Held taken bytes = IfOk taken (λ n. IsPrefixLen n bytes)
