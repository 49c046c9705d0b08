use Rattle.std.proofs.Common.{rules}
use Rattle.report.specs.Frames.{frames_room}
use Rattle.report.proofs.Writing.{printed}
use Rattle.report.proofs.frames.frames_text.Goals as goal

-- `using(..printed)` on the function closes neither: the last premise takes a search of its own
pub returns-in-Ok : goal.returns-in-Ok
returns-in-Ok c = printed frames_room c.if-out-lt-FRAMES_ROOM.false (search rules)

pub returns-in-Err : goal.returns-in-Err
returns-in-Err c = printed frames_room c.if-out-lt-FRAMES_ROOM.false (search rules)
