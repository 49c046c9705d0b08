use Rattle.utf8.proofs.Reading.{rest_told}
use Rattle.utf8.proofs.text.length_by_class.Goals as goal

pub loop-i-preserved : goal.loop-i-preserved
loop-i-preserved c =
    rest_told _ _ _ _ c.loop-i.invariant c.loop-i-test.true c.if-b-eq0.false _ c.in-Some.ensures
