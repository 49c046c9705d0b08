use Rattle.std.proofs.Common.{ℕ, sym}
use lib.ListN.{length-replicate}
use Rattle.replay.proofs.buffer.Goals as goal

pub returns : goal.returns
returns c =
    sym (length-replicate {0} {A = ℕ} 1048576 0)
