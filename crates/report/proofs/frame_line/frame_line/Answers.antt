use lib.ListN.{take, drop}
use Rattle.framedata.specs.Frame.{told_frame}
use Rattle.report.specs.Frames.{kind_columns, frame_line}
use Rattle.report.proofs.Columns.{put-columns}
use Rattle.report.proofs.Pages.{put_both}
use Rattle.report.proofs.frame_line.frame_line.Goals as goal

pub returns-clause-wrote : goal.returns-clause-wrote
unfolding frame_line
returns-clause-wrote c =
    let l = kind_columns (told_frame c.args.f) in
    let ty = rw c.type_column.ensures.wrote at c.put.ensures in
    let kinds
    = put-columns (take 1 l) (drop 1 l) c.optional.ensures.wrote
    (put-columns (take 1 (drop 1 l)) (drop 2 l) c.optional-2.ensures.wrote ty) in
    put_both c.sizes.ensures.wrote (put_both kinds c.letters.ensures.wrote)
