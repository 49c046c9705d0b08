use mathlib.Core.Path.{◌≡◌, sym, ap, ◌∙◌}
use Prim.Native.Nat.{◌+◌, ◌-◌, ◌*◌}
use native.Mathlib.Omega.{arith}
use lib.ListN.{length, take, drop}
use Rattle.pe.proofs.HeaderAnswers.{found}
use Rattle.pe.proofs.Names.{front, name-there}
use Rattle.pe.proofs.naming.name.Goals as goal

pub slice_bounds-field-end : goal.slice_bounds-field-end
slice_bounds-field-end c =
    let there = rw c.in-Ok-true.field-0-test at c.in-Ok-true.ensures in
    omega (arith, found c.args.table.now c.in-Some.place there)

pub slice_bounds-result-end-in-Ok-true : goal.slice_bounds-result-end-in-Ok-true
slice_bounds-result-end-in-Ok-true c =
    rw c.text_length.ensures (sym (ap length (front _)))

pub returns-in-Ok-true : goal.returns-in-Ok-true
returns-in-Ok-true c =
    let s = c.args.table.now in
    let i = c.in-Some.place in
    let there = rw c.in-Ok-true.field-0-test at c.in-Ok-true.ensures in
    let eight : 40 * i + 8 - 40 * i ≡ 8 = omega arith in
    let number : c.args.number ≡ i + 1 = omega arith in
    rw (c.text_length.ensures, number, eight) (front (take 8 (drop (40 * i) s)) ∙ name-there s i there)
