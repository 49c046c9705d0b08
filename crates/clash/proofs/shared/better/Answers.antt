use Prim.Native.Nat.{◌+◌, ◌*◌}
use native.Mathlib.Omega.{arith}
use Rattle.lent.proofs.Field.{below}
use Rattle.clash.proofs.Later.{some-part, pass-zero, pass-low, hit-first, hit_later}
use Rattle.clash.proofs.shared.better.Goals as goal

pub returns-then-target-eq0 : goal.returns-then-target-eq0
returns-then-target-eq0 c =
    let a = c.args in
    let until = (rw (← c.requires.0) at a.window.until) c.requires.1.1.1.1.1 in
    let order = rw (← c.requires.0) at a.window.in_order in
    pass-zero a.table.now a.window.b a.window.last until order c.type_inv.table a.i c.requires.1.0 a.from a.best
    (omega arith) (omega arith)

pub overflow_sub-size : goal.overflow_sub-size
overflow_sub-size c =
    let a = c.args in
    let until = (rw (← c.requires.0) at a.window.until) c.requires.1.1.1.1.1 in
    let order = rw (← c.requires.0) at a.window.in_order in
    omega (
      arith,
      c.u32_at-source.ensures,
      c.end_in.ensures,
      some-part a.table.now a.window.b a.window.last until order c.type_inv.table a.i c.requires.1.0,
    )

pub overflow_add-target : goal.overflow_add-target
overflow_add-target c = omega (arith, below 4 c.args.table.now (8 * c.args.i + 4) c.type_inv.table)

pub returns-then-target-size : goal.returns-then-target-size
returns-then-target-size c =
    let a = c.args in
    let until = (rw (← c.requires.0) at a.window.until) c.requires.1.1.1.1.1 in
    let order = rw (← c.requires.0) at a.window.in_order in
    pass-low a.table.now a.window.b a.window.last until order c.type_inv.table a.i c.requires.1.0 a.from a.best
    (omega arith) (omega arith) (omega (arith, c.end_in.ensures, c.u32_at-source.ensures))

pub returns-then-target-from : goal.returns-then-target-from
returns-then-target-from c =
    let a = c.args in
    let until = (rw (← c.requires.0) at a.window.until) c.requires.1.1.1.1.1 in
    let order = rw (← c.requires.0) at a.window.in_order in
    let first = hit-first a.table.now a.window.b a.window.last until order c.type_inv.table a.i c.requires.1.0 a.from
    a.best (omega arith) (omega arith) (omega arith) (omega (arith, c.end_in.ensures, c.u32_at-source.ensures)) in
    rw (c.u32_at-source.ensures, c.requires.1.1.1.0) first

pub returns : goal.returns
returns c =
    let a = c.args in
    let until = (rw (← c.requires.0) at a.window.until) c.requires.1.1.1.1.1 in
    let order = rw (← c.requires.0) at a.window.in_order in
    let later = hit_later a.table.now a.window.b a.window.last until order c.type_inv.table a.i c.requires.1.0 a.from
    a.best (omega arith) (omega arith) (omega arith) (omega arith) in
    rw (c.u32_at-source.ensures, c.requires.1.1.1.0) later
