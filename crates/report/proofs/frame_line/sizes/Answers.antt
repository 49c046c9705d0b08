use mathlib.Core.List.{append_assoc}
use Rattle.report.proofs.Pages.{put_both}
use Rattle.report.proofs.Writing.{length_digits}
use Rattle.report.proofs.frame_line.sizes.Goals as goal

pub returns-clause-wrote : goal.returns-clause-wrote
returns-clause-wrote c =
    let text
    = put_both c.hex.ensures.wrote
    (put_both c.hex-2.ensures.wrote
    (put_both c.hex-3.ensures.wrote
    (put_both c.hex-4.ensures.wrote (put_both c.hex-5.ensures.wrote c.hex-6.ensures.wrote)))) in
    simp (length_digits, append_assoc) (simp append_assoc at (rw (c.from.ensures, c.from-2.ensures) at text))
