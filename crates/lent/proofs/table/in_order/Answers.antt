use Prim.Native.Nat.{◌/◌}
use mathlib.Core.Path.{◌≡◌, refl, sym, ap, ◌∙◌}
use mathlib.Core.Bool.{Bool, ◌&&◌, and-true}
use native.Mathlib.Omega.{arith}
use lib.ListN.{length}
use native.Mathlib.Nat.{mul-zero}
use Rattle.lent.specs.Le.{le_at}
use Rattle.lent.specs.Order.{key_at}
use Rattle.lent.proofs.Rising.{after-step, rising-first, rising_none, rising-all}
use Rattle.lent.proofs.table.in_order.Goals as goal

pub returns-then-n-eq0 : goal.returns-then-n-eq0
returns-then-n-eq0 c =
    let a = c.args in
    sym (rising_none (key_at a.width a.table.now) (length a.table.now / a.width) (omega arith))

pub loop-i-init : goal.loop-i-init
loop-i-init c =
    let a = c.args in
    let t = a.table.now in
    let e : le_at 4 t 0 ≡ key_at a.width t 0 = ap (le_at 4 t) (sym (mul-zero a.width)) in (
      omega arith,
      (
        omega arith,
        (
          refl,
          rw (c.u32_at-before.ensures, e)
              (rising-first (key_at a.width t) (length t / a.width) (omega arith)),
        ),
      ),
    )

pub loop-i-preserved : goal.loop-i-preserved
loop-i-preserved c =
    let a = c.args in (
      omega arith,
      (
        omega arith,
        (
          refl,
          rw c.u32_at-key.ensures
              (c.loop-i.invariant.1.1.1 ∙ after-step (key_at a.width a.table.now) c.loop-i.i (length a.table.now / a.width)
              c.loop-i.before (omega arith) c.loop-i.rises),
        ),
      ),
    )

pub returns : goal.returns
returns c =
    let a = c.args in
    let all = rising-all (key_at a.width a.table.now) c.loop-i.before c.loop-i.i (length a.table.now / a.width)
    (omega arith) in
    sym (c.loop-i.invariant.1.1.1 ∙ ap (λ (t : Bool). c.loop-i.rises && t) all ∙ and-true c.loop-i.rises)
