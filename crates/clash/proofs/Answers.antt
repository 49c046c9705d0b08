-- The answers of the clash check and the way back: by refusals, and by the window's pieces, from which they are
-- computed.
-- Assumes nothing.
use mathlib.Core.Path.{◌≡◌, sym, ap, ◌∙◌}
use Prim.Native.Nat.{ℕ, ◌≤◌}
use native.Mathlib.Omega.{arith}
use mathlib.Core.Bool.{true}
use mathlib.Core.List.{List}
use mathlib.Core.Option.{none, some}
use Rattle.lent.specs.Order.{rising, keys}
use Rattle.lent.specs.Paper.{value, refused}
use Rattle.omap.specs.Records.{records, sources}
use Rattle.omap.specs.Window.{pieces}
use Rattle.omap.specs.Output.{window_fault}
use Rattle.omap.proofs.Last.{sources-keys}
use Rattle.clash.specs.Clash.{least_two, clash_spec, back_spec}
use Rattle.clash.specs.Shared.{sources_in, clash_of}
use Rattle.clash.proofs.Runs.{sources-by-pieces, clash-by-pieces}

module _ (s : List ℕ) (a b : ℕ) where
  module _ (n : ℕ) (bad : some n ≡ window_fault true s a b) where
    pub clash-refused : refused n ≡ clash_spec s a b
    unfolding clash_spec
    clash-refused = rw (← bad)

    pub back-refused : (t : ℕ) → refused n ≡ back_spec s a b t
    unfolding back_spec
    back-refused t = rw (← bad)

  module _ (order : rising (keys 8 s) ≡ true) (good : none ≡ window_fault true s a b) (w : b ≤ 4294967295) where
    in_table : rising (sources (records s)) ≡ true
    in_table = ap rising (sources-keys s) ∙ order

    -- the clash check by pieces
    pub clash-given : value (clash_of (pieces a b (records s))) ≡ clash_spec s a b
    unfolding clash_spec
    clash-given = rw (← good) (ap value (sym (clash-by-pieces a b (records s) in_table (omega arith))))

    -- the way back by pieces
    pub back-given : (t : ℕ) → least_two (sources_in t (pieces a b (records s))) ≡ back_spec s a b t
    unfolding back_spec
    back-given t = rw (← good) (ap least_two (sym (sources-by-pieces a b (records s) in_table (omega arith) t)))
