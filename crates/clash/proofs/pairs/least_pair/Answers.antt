use mathlib.Core.Path.{refl, sym, ◌∙◌}
use native.Mathlib.Omega.{arith}
use mathlib.Core.Option.{none, some}
use Rattle.lent.specs.Words.{or_else}
use Rattle.omap.specs.Ahead.{ahead}
use Rattle.clash.specs.Clash.{Pair}
use Rattle.clash.proofs.LeastPair.{no-clash, still-present, inside-piece, pair-given}
use Rattle.clash.proofs.pairs.least_pair.Goals as goal

pub source_of-first-requires-clause-to : goal.source_of-first-requires-clause-to
source_of-first-requires-clause-to c =
    let m = c.in-Some-first_shared.shared in
    let shown : Pair = record { first = m.target; second = m.source } in
    inside-piece c.loop-piece.later c.next.new.self c.in-Some.piece c.in-Some.ensures.steps c.loop-piece.invariant.present
    (some shown) c.in-Some-first_shared.ensures m.target m.source refl

pub returns-in-Some-first_shared : goal.returns-in-Some-first_shared
unfolding or_else
returns-in-Some-first_shared c =
    let m = c.in-Some-first_shared.shared in
    let shown : Pair = record { first = m.target; second = m.source } in
    rw c.source_of-first.ensures (sym (c.loop-piece.invariant.same ∙ pair-given c.loop-piece.later c.next.new.self
    c.in-Some.piece c.in-Some.ensures.steps c.loop-piece.invariant.present (some shown) c.in-Some-first_shared.ensures))

pub loop-piece-preserved : goal.loop-piece-preserved
unfolding or_else
loop-piece-preserved c =
    let w = c.loop-piece.later in
    let l = c.next.new.self in
    let steps = c.in-Some.ensures.steps in
    let here = c.loop-piece.invariant.present in
    let found = c.in_default-first_shared.ensures in
    record {
      present = still-present w l c.in-Some.piece steps here none found;
      same = c.loop-piece.invariant.same ∙ pair-given w l c.in-Some.piece steps here none found;
    }

pub returns : goal.returns
returns c = sym (c.loop-piece.invariant.same ∙ no-clash (ahead c.loop-piece.later) c.in_default.ensures.steps.0.0)

pub source_of-first-requires-clause-inside : goal.source_of-first-requires-clause-inside
source_of-first-requires-clause-inside c = let found = c.in-Some.ensures.steps.1.found in omega (arith, found.inside, found.short)

pub first_shared-requires : goal.first_shared-requires
first_shared-requires c = c.in-Some.ensures.steps.1.found.some-of-it
