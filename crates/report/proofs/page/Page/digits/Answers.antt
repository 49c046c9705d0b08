use Rattle.report.proofs.Pages.{part_length, put_part}
use Rattle.report.proofs.Writing.{length_digits}
use Rattle.report.specs.Text.{digits}
use Rattle.report.proofs.page.Page.digits.Goals as goal

pub returns-clause-wrote : goal.returns-clause-wrote
returns-clause-wrote c =
    let a = c.args in
    let p = a.self.now in
    let part = rw (part_length p a.width c.requires.room) at c.write_digits.ensures in
    put_part p a.width c.requires.room (digits a.base a.width a.n) c.write_digits.new.out
    (length_digits a.base a.width a.n) part
