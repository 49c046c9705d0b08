use Rattle.lent.proofs.Search.{found-above}
use Rattle.omap.proofs.Walking.{begins-before}
use Rattle.omap.proofs.records.first_from.Goals as goal

pub returns : goal.returns
returns c =
    let a = c.args in
    let found = c.binary_search.result in
    rw c.saturating_sub.ensures (begins-before a.table.now a.a found.place
    (found-above 8 a.table.now a.a c.requires found c.binary_search.ensures))
