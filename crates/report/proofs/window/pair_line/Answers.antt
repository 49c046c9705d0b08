use mathlib.Core.List.{append_assoc}
use Rattle.report.proofs.Pages.{put_both}
use Rattle.report.proofs.window.pair_line.Goals as goal

pub returns : goal.returns
returns c = simp append_assoc at (put_both c.hex.ensures.wrote c.hex-2.ensures.wrote)
