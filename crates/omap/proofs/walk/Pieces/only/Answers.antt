use native.Mathlib.Omega.{arith}
use mathlib.Core.List.{[]}
use mathlib.Core.Logic.{inl, inr}
use Rattle.omap.proofs.Walking.{absent-none, absent-found}
use Rattle.omap.proofs.walk.Pieces.only.Goals.{then-self-ne0-via-then-self-ne0, then-self-ne0-via-else-self-ne0+then-self-eq0, then-self-ne0-via-else-self-ne0+else-self-eq0+then-self}
use Rattle.omap.proofs.walk.Pieces.only.Goals as goal

pub returns-then-self-ne0 : goal.returns-then-self-ne0
returns-then-self-ne0 c =
    let p = c.args.self in
    let none = absent-none [] p.a p.b p.next in
    rw c.requires (elim c.then-self-ne0.branch [
      | then-self-ne0-via-then-self-ne0 w ↦ none (inl w.if-self-ne0.true)
      | then-self-ne0-via-else-self-ne0+then-self-eq0 w ↦ none (inr (inl (omega arith)))
      | then-self-ne0-via-else-self-ne0+else-self-eq0+then-self w ↦ none (inr (inr (omega arith)))
    ])

pub returns : goal.returns
returns c =
    let p = c.args.self in
    rw c.requires (absent-found [] p.a p.b p.next (omega arith) c.if-self-eq0.false (omega arith) (omega arith))
