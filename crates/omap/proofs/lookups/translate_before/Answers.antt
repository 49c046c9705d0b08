use Prim.Native.Nat.{ℕ, ◌-◌, ◌/◌, ◌≤◌, ◌<◌}
use mathlib.Core.Path.{◌≡◌, sym, subst}
use native.Mathlib.Omega.{arith}
use lib.ListN.{length}
use Rattle.lent.specs.Order.{key_at}
use Rattle.lent.proofs.Search.{place-within, key-before}
use Rattle.omap.proofs.Looked.{before-first, before-zero, before_at, before-large}
use Rattle.omap.proofs.lookups.translate_before.Goals as goal

pub returns-in_default : goal.returns-in_default
returns-in_default c = before-first c.args.table.now c.args.address c.args.place (omega (arith, c.in_default.ensures))

pub entry_at-source-requires : goal.entry_at-source-requires
entry_at-source-requires c =
    let a = c.args in
    let here : a.place ≤ length a.table.now / 8 = rw c.requires (place-within 8 a.table.now a.address) in
    omega (arith, here, c.in-Some.ensures)

pub returns-then-target-eq0 : goal.returns-then-target-eq0
returns-then-target-eq0 c =
    let a = c.args in
    let at : c.in-Some.at ≡ a.place - 1 = omega (arith, c.in-Some.ensures) in
    let zero = rw (c.entry_at-source.ensures, at) at c.if-target-eq0.true in
    before-zero a.table.now a.address a.place (omega (arith, c.in-Some.ensures)) zero

pub overflow_sub-into : goal.overflow_sub-into
overflow_sub-into c =
    let a = c.args in
    let at : c.in-Some.at ≡ a.place - 1 = omega (arith, c.in-Some.ensures) in
    let P : ℕ → Type 0 = λ (j : ℕ). 0 < j → key_at 8 a.table.now (j - 1) ≤ a.address in
    rw (c.entry_at-source.ensures, at)
    (subst P (sym c.requires) (key-before 8 a.table.now a.address) (omega (arith, c.in-Some.ensures)))

pub returns-in-Some-checked_add : goal.returns-in-Some-checked_add
returns-in-Some-checked_add c =
    let a = c.args in
    let at : c.in-Some.at ≡ a.place - 1 = omega (arith, c.in-Some.ensures) in
    let mapped = rw (c.entry_at-source.ensures, at) at c.if-target-eq0.false in
    let sum = rw (c.entry_at-source.ensures, at) at c.in-Some-checked_add.ensures in
    rw sum.1 (before_at a.table.now a.address a.place (omega (arith, c.in-Some.ensures)) mapped (omega (arith, sum.0)))

pub returns-in-None : goal.returns-in-None
returns-in-None c =
    let a = c.args in
    let at : c.in-Some.at ≡ a.place - 1 = omega (arith, c.in-Some.ensures) in
    let mapped = rw (c.entry_at-source.ensures, at) at c.if-target-eq0.false in
    let large = rw (c.entry_at-source.ensures, at) at c.in-None.ensures in
    before-large a.table.now a.address a.place (omega (arith, c.in-Some.ensures)) mapped (omega (arith, large))
