use Rattle.std.proofs.Common.{◌≤◌, length}
use Rattle.replay.proofs.replay.Given as goal

abbrev pub invariant-loop-rest : goal.invariant-loop-rest
invariant-loop-rest g l = length l.rest ≤ length l.file

abbrev pub decreases-loop-rest : goal.decreases-loop-rest
decreases-loop-rest g l = length l.rest
