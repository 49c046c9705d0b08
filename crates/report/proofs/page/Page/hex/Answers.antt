use Rattle.report.proofs.Pages.{put_both}
use Rattle.report.proofs.page.Page.hex.Goals as goal

pub returns-clause-wrote : goal.returns-clause-wrote
returns-clause-wrote c = rw c.from.ensures at (put_both c.digits.ensures.wrote c.put.ensures)
