use mathlib.Core.Path.{ap, ◌∙◌}
use Rattle.lent.specs.Paper.{fitted}
use Rattle.lent.specs.declared.searches.Searched.{Searched}
use Rattle.omap.specs.Records.{moved}
use Rattle.omap.specs.Quick.{record_before}
use Rattle.omap.proofs.Looked.{look-good}
use Rattle.omap.proofs.lookups.lookup.Goals as goal

pub returns : goal.returns
returns c =
    let s = c.in-Some.records.now in
    let a = c.args.address in
    rw c.in-Some.is (
    c.translate_before.ensures
    ∙ ap (λ (r : Searched). fitted (moved a (record_before s r.place))) c.binary_search-found.ensures
    ∙ look-good s a c.in_ok-check.ensures)
