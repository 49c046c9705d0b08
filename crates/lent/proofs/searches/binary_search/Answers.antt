use Prim.Native.Nat.{ℕ}
use mathlib.Core.Path.{ap}
use native.Mathlib.Omega.{arith}
use lib.Dec.{leb}
use Rattle.lent.proofs.Halving.{halving-first, halving-next, halving-done, halving-last}
use Rattle.lent.proofs.searches.binary_search.Goals as goal

pub loop-longest-init : goal.loop-longest-init
loop-longest-init c =
    let a = c.args in
    halving-first a.width a.table.now a.address

pub loop-longest-preserved : goal.loop-longest-preserved
loop-longest-preserved c =
    let a = c.args in
    let r = c.loop-longest in
    halving-next a.width a.table.now a.address r.lo r.hi r.middle r.longest r.probes r.invariant (omega arith) (leb
    c.u32_at.result a.address) (ap (λ (x : ℕ). leb x a.address) c.u32_at.ensures) c.chosen-lo.result
    c.chosen-hi.result c.chosen-middle.result c.chosen-lo.ensures c.chosen-hi.ensures c.chosen-middle.ensures

pub returns-then-lo-hi : goal.returns-then-lo-hi
returns-then-lo-hi c =
    let a = c.args in
    let r = c.loop-longest in
    halving-done a.width a.table.now a.address r.lo r.hi r.middle r.longest r.probes r.invariant (omega arith)

pub returns : goal.returns
returns c =
    let a = c.args in
    let r = c.loop-longest in
    halving-last a.width a.table.now a.address r.lo r.hi r.middle r.longest r.probes r.invariant (omega (
      arith,
      c.loop-longest.invariant.up,
      c.if-lo-hi.false,
    )) (omega arith) (leb c.u32_at-2.result a.address) (ap (λ (x : ℕ).
    leb x a.address) c.u32_at-2.ensures) c.chosen.result c.chosen.ensures
