use Prim.Native.Nat.{ℕ, zero, suc, ◌+◌, ◌-◌}
use mathlib.Core.Path.{◌≡◌, refl, ap, ◌∙◌}
use mathlib.Core.List.{List, []}
use mathlib.Core.Option.{none}
use native.Mathlib.Omega.{arith}
use Rattle.std.specs.Option.{is_some}
use Rattle.omap.specs.Records.{rest}
use Rattle.omap.specs.Window.{Piece, pieces}
use Rattle.omap.proofs.Pieces.{none_left}
use Rattle.clash.specs.Clash.{paired_or}
use Rattle.clash.specs.Shared.{first_shared, sources_in}
use Rattle.clash.proofs.Later.{searching-first, searching-more, searching-found, searching-some}
use Rattle.clash.proofs.Later.{searching-none, pass-high}
use Rattle.clash.proofs.shared.first_shared.Goals.{then-target-best+else-best-from, else-target-best}
use Rattle.clash.proofs.shared.first_shared.Goals as goal

whole : (l : List Piece) (from size : ℕ) → first_shared l from (from + size - from) ≡ first_shared l from size
whole l from size = let e : from + size - from ≡ size = omega arith in ap (first_shared l from) e

-- an absent table has no pieces, and none of them has a source
none-shared : (t n : ℕ) → none ≡ first_shared [] t n
unfolding first_shared sources_in paired_or
none-shared t zero = refl
none-shared t (suc n) = none-shared (suc t) n

pub returns-in_default : goal.returns-in_default
returns-in_default c =
    let a = c.args in
    rw (c.in_default.is, none_left [] 0 a.window.b a.window.next (omega arith)) (none-shared a.piece.to a.piece.size)

pub loop-i-init : goal.loop-i-init
loop-i-init c =
    let a = c.args in
    searching-first c.bytes_or_none-table.result.now a.window.b a.piece.to (a.piece.to + a.piece.size) a.window.next
    (omega arith)

pub returns-then-best-from : goal.returns-then-best-from
returns-then-best-from c =
    let a = c.args in
    let s = c.bytes_or_none-table.result.now in
    let e : c.better-best.result.target ≡ a.piece.to = omega (arith, c.better-best.ensures.low) in
    rw (← c.bytes_or_none-table.ensures, e) (
    searching-found s a.window.b a.piece.to (a.piece.to + a.piece.size) a.window.next c.loop-i.i c.loop-i.best
    c.loop-i.invariant c.better-best.result c.better-best.ensures (omega arith) (omega arith)
    ∙ whole (pieces 0 a.window.b (rest s a.window.next)) a.piece.to a.piece.size)

-- a record whose target is not below the best adds nothing
pub loop-i-preserved : goal.loop-i-preserved
loop-i-preserved c =
    let a = c.args in
    let s = c.bytes_or_none-table.result.now in
    let until = (rw (← c.bytes_or_none-table.ensures) at a.window.until) (ap is_some c.in-Some.is) in
    let order = rw (← c.bytes_or_none-table.ensures) at a.window.in_order in
    let more = searching-more s a.window.b a.piece.to (a.piece.to + a.piece.size) a.window.next c.loop-i.i c.loop-i.best
    c.loop-i.invariant in
    elim c.if-target-best.branch [
      | then-target-best+else-best-from w ↦
          rw w.best-is (more w.better-best.result w.better-best.ensures (omega arith))
      | else-target-best w ↦
          let high = pass-high s a.window.b a.window.last until order c.type_inv.table c.loop-i.i (omega arith) a.piece.to
          c.loop-i.best c.loop-i.invariant.low (omega (arith, c.u32_at-target.ensures, c.loop-i.invariant.low))
          (omega (arith, c.u32_at-target.ensures)) in
          rw w.best-is (more c.loop-i.best high c.loop-i.invariant.low)
    ]

pub returns-then-best-end : goal.returns-then-best-end
returns-then-best-end c =
    let a = c.args in
    let s = c.bytes_or_none-table.result.now in
    let until = (rw (← c.bytes_or_none-table.ensures) at a.window.until) (ap is_some c.in-Some.is) in
    let order = rw (← c.bytes_or_none-table.ensures) at a.window.in_order in
    rw (← c.bytes_or_none-table.ensures) (
    searching-some s a.window.b a.piece.to (a.piece.to + a.piece.size) a.window.next c.loop-i.i c.loop-i.best
    c.loop-i.invariant a.window.last until order (omega arith) (omega arith)
    ∙ whole (pieces 0 a.window.b (rest s a.window.next)) a.piece.to a.piece.size)

pub returns-else-best-end : goal.returns-else-best-end
returns-else-best-end c =
    let a = c.args in
    let s = c.bytes_or_none-table.result.now in
    let until = (rw (← c.bytes_or_none-table.ensures) at a.window.until) (ap is_some c.in-Some.is) in
    let order = rw (← c.bytes_or_none-table.ensures) at a.window.in_order in
    rw (← c.bytes_or_none-table.ensures) (
    searching-none s a.window.b a.piece.to (a.piece.to + a.piece.size) a.window.next c.loop-i.i c.loop-i.best
    c.loop-i.invariant a.window.last until order (omega arith) (omega arith)
    ∙ whole (pieces 0 a.window.b (rest s a.window.next)) a.piece.to a.piece.size)
