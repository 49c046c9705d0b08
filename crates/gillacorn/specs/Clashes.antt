-- What the face shows of a clash and of the way back.
use Rattle.std.specs.Prelude.{ℕ}
use Rattle.std.proofs.Math.Option.{Option, none, some}
use Rattle.lent.specs.Paper.{Told, value, nothing, refused}
use Rattle.clash.specs.Clash.{Sources, one, two}
use Rattle.clash.specs.declared.sources.Sources as kept
use Rattle.clash.specs.declared.sources.Sources.TheVariants as sources
use Rattle.clash.specs.declared.pairs.Pair.{Pair}
use Rattle.gillacorn.specs.declared.clashes.PairAnswer.{PairAnswer}
use Rattle.gillacorn.specs.declared.clashes.SourcesAnswer.{SourcesAnswer}

-- the least pair; 255 where the window is single
abbrev pub pair_answer : Told (Option Pair) → PairAnswer
pair_answer (value none) = record { code = 255; first = 0; second = 0 }
pair_answer (value (some p)) = record { code = 0; first = p.first; second = p.second }
pair_answer nothing = record { code = 255; first = 0; second = 0 }
pair_answer (refused n) = record { code = n; first = 0; second = 0 }

-- how many sources are shown, and which; 0 where there is no second
abbrev pub sources_shown : kept.Sources → ℕ × ℕ × ℕ
sources_shown (sources.One x) = (1, x, 0)
sources_shown (sources.Two x y) = (2, x, y)

-- how many sources are shown, and the sources
abbrev pub sources_answer : Told Sources → SourcesAnswer
sources_answer (value (one x)) = record { code = 0; sources = 1; first = x; second = 0 }
sources_answer (value (two x y)) = record { code = 0; sources = 2; first = x; second = y }
sources_answer nothing = record { code = 255; sources = 0; first = 0; second = 0 }
sources_answer (refused n) = record { code = n; sources = 0; first = 0; second = 0 }
