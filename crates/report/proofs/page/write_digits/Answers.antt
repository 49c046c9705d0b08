use mathlib.Core.Path.{◌≡◌, ◌∙◌}
use Prim.Native.Nat.{suc, ◌-◌, ◌+◌}
use native.Mathlib.Omega.{arith}
use lib.ListN.{length}
use Rattle.std.proofs.lemmas.List.{take_all}
use Rattle.report.proofs.Writing.{digit_next}
use Rattle.report.specs.Text.{digits}
use Rattle.report.proofs.page.write_digits.Goals as goal

pub loop-digit-preserved : goal.loop-digit-preserved
loop-digit-preserved c =
    let l = c.loop-digit in
    let w = length c.args.out.now in
    let k = w - (l.digit-index + 1) in
    let e : suc k ≡ w - l.digit-index = omega arith in
    rw c.glyph.ensures (rw e at (digit_next c.args.base k l.digit-index l.left l.out (omega arith)) ∙ l.invariant)

pub returns : goal.returns
unfolding digits
returns c =
    let l = c.loop-digit in
    let e : length c.args.out.now - l.digit-index ≡ 0 = omega arith in
    c.reverse.ensures.after ∙ (rw (take_all l.digit-index l.out (omega arith)) at (rw e at l.invariant))
