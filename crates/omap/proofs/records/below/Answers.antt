use Prim.Native.Nat.{◌-◌}
use mathlib.Core.Path.{◌≡◌}
use native.Mathlib.Omega.{arith}
use Rattle.lent.proofs.Search.{found-above}
use Rattle.omap.proofs.Walking.{below-some}
use Rattle.omap.proofs.records.below.Goals as goal

pub returns-in-Some : goal.returns-in-Some
returns-in-Some c =
    let a = c.args in
    let found = c.binary_search in
    let last : c.in-Some.last ≡ a.b - 1 = omega (arith, c.in-Some.ensures) in
    below-some a.table.now a.b found.result.place (omega (arith, c.in-Some.ensures))
    (found-above 8 a.table.now (a.b - 1) c.requires found.result (rw last at found.ensures))
