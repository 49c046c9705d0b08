-- Addresses of a window that share a translation, and the sources of a target, address by address.
use Rattle.std.specs.Prelude.{ℕ, Bool, true, false, cond, List, [], ◌∷◌, eqb}
use Rattle.std.proofs.Math.Option.{Option, none, some}
use Rattle.std.specs.Prelude.{Result, Ok, Err, Option as Maybe, Some, None}
use Rattle.lent.specs.Paper.{Told, value, nothing, refused, unless, sum_number}
use Rattle.lent.specs.Words.{optional}
use Rattle.lent.specs.declared.refusal.SumRefusal.{SumRefusal}
use Rattle.omap.specs.Records.{records, single}
use Rattle.omap.specs.Output.{window_fault}
use Rattle.omap.specs.Expand.{range}
pub use Rattle.clash.specs.declared.pairs.Pair.{Pair}
use Rattle.clash.specs.declared.sources.Sources as kept
use Rattle.clash.specs.declared.sources.Sources.TheVariants as sources

-- a translation is t
unfoldable pub lands_on : Option ℕ → ℕ → Bool
lands_on none t = false
lands_on (some v) t = eqb v t

-- the addresses of a list that f takes to t, in order
unfoldable pub sources_of : (ℕ → Option ℕ) → ℕ → List ℕ → List ℕ
sources_of f t [] = []
sources_of f t (x ∷ l) = cond (lands_on (f x) t) (x ∷ sources_of f t l) (sources_of f t l)

-- the addresses of a list that f takes to where another goes: none, if that goes nowhere
abbrev pub sharing : (ℕ → Option ℕ) → Option ℕ → List ℕ → List ℕ
sharing f none l = []
sharing f (some t) l = sources_of f t l

-- x and the first of the others; if there are no others, what is found later
unfoldable pub paired_or : ℕ → List ℕ → Option Pair → Option Pair
paired_or x [] later = later
paired_or x (y ∷ l) later = some (record { first = x; second = y })

-- the first address of a list that shares its translation with a later one, and the first such later one
unfoldable pub first_clash : (ℕ → Option ℕ) → List ℕ → Option Pair
first_clash f [] = none
first_clash f (x ∷ l) = paired_or x (sharing f (f x) l) (first_clash f l)

-- the clash check's value: "single" is none
abbrev pub told_clashed : Result (Maybe Pair) SumRefusal → Told (Option Pair)
told_clashed (Ok p) = value (optional p)
told_clashed (Err why) = refused (sum_number why)

-- 1, 2, 3, 4, "single", or the least pair of window addresses with equal translations
unfoldable pub clash_spec : List ℕ → ℕ → ℕ → Told (Option Pair)
clash_spec s a b = unless (window_fault true s a b) (value (first_clash (single (records s)) (range a b)))

-- the one source, or the two least
pub data Sources : Type 0 where
  one : ℕ → Sources
  two : ℕ → ℕ → Sources

-- a way back's value
abbrev pub told_kept : Maybe kept.Sources → Told Sources
told_kept None = nothing
told_kept (Some (sources.One x)) = value (one x)
told_kept (Some (sources.Two x y)) = value (two x y)

abbrev pub told_back : Result (Maybe kept.Sources) SumRefusal → Told Sources
told_back (Ok found) = told_kept found
told_back (Err why) = refused (sum_number why)

-- none, the one source or the two least, of all sources in order
unfoldable pub least_two : List ℕ → Told Sources
least_two [] = nothing
least_two (x ∷ []) = value (one x)
least_two (x ∷ (y ∷ l)) = value (two x y)

-- 1, 2, 3, 4, none, the one source of t in the window, or the two least
unfoldable pub back_spec : List ℕ → ℕ → ℕ → ℕ → Told Sources
back_spec s a b t = unless (window_fault true s a b) (least_two (sources_of (single (records s)) t (range a b)))
