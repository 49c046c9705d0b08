use mathlib.Core.Path.{◌≡◌, refl, sym, ◌∙◌}
use Rattle.std.proofs.Common.{rules}
use native.Mathlib.Omega.{arith}
use Rattle.std.specs.Prelude.{Err}
use Rattle.omap.specs.Records.{rest}
use Rattle.omap.specs.Refusals.{step_number}
use Rattle.omap.specs.Step.{refused_at}
use Rattle.omap.specs.Turned.{advanced, next_turn}
use Rattle.omap.proofs.Turns.{walk-done, walk_ends, Onward, skipped, turn-yields, turn-passes}
use Rattle.omap.proofs.cursor.Cursor.advance.Goals as goal

pub returns-in_err-turned : goal.returns-in_err-turned
returns-in_err-turned c =
    let k = c.loop-self.self in
    let why = c.in_err-turned.field-0.0 in
    let now = c.args.self.now in
    let told : advanced now k c.from_residual-in_err-turned.result ≡ refused_at (step_number why) now = search rules in
    let was : c.pull.result ≡ Err why = c.in_err-turned.was in
    told ∙ sym (c.loop-self.invariant ∙ walk_ends (rest c.bytes_or_none-records.result.now k.place) now k (omega arith)
    (Err why) (sym was ∙ c.pull.ensures) (refused_at (step_number why) now) (λ on. refl))

pub returns-in-Some : goal.returns-in-Some
returns-in-Some c =
    let k = c.loop-self.self in
    let t = c.in_ok-turned.turned in
    sym (c.loop-self.invariant ∙ turn-yields (rest c.bytes_or_none-records.result.now k.place) c.args.self.now k (omega arith)
    t c.in_ok-turned.ensures c.in-Some.range c.in-Some.is)

pub loop-self-smaller : goal.loop-self-smaller
loop-self-smaller c =
    let s = c.bytes_or_none-records.result.now in
    let k = c.loop-self.self in
    let t = c.in_ok-turned.turned in
    let here : Onward s c.args.self.now k t.next
    = skipped s c.args.self.now k t.next (omega arith) (turn-passes t (next_turn (rest s k.place) k) c.in_default.is c.in_ok-turned.ensures) in
    here.less

pub loop-self-preserved : goal.loop-self-preserved
loop-self-preserved c =
    let s = c.bytes_or_none-records.result.now in
    let k = c.loop-self.self in
    let t = c.in_ok-turned.turned in
    let here : Onward s c.args.self.now k t.next
    = skipped s c.args.self.now k t.next (omega arith) (turn-passes t (next_turn (rest s k.place) k) c.in_default.is c.in_ok-turned.ensures) in
    c.loop-self.invariant ∙ here.same

pub returns : goal.returns
returns c =
    let k = c.loop-self.self in
    sym (c.loop-self.invariant ∙ walk-done (rest c.bytes_or_none-records.result.now k.place) c.args.self.now k (omega arith))
