use Rattle.report.proofs.Pages.{put_both}
use Rattle.report.proofs.page.Page.numbered.Goals as goal

pub returns : goal.returns
returns c = rw (← c.places.ensures) (put_both c.put.ensures (put_both c.digits.ensures.wrote c.put-2.ensures))
