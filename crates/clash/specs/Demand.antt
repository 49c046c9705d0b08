-- The words of demand 3: what a clash and a source are, of the addresses of a window a..b, its end b excluded, and a
-- translation f.
use Rattle.std.specs.Prelude.{◌≡◌, ◌⊎◌, true, List, ℕ, ◌≤◌, ◌<◌}
use Rattle.std.proofs.Math.Option.{Option, none, some}
use Rattle.lent.specs.Paper.{value, nothing}
use Rattle.omap.specs.Lookup.{looked_up}
use Rattle.clash.specs.Clash.{Pair, one, clash_spec, back_spec}

-- x is an address of the window that lands on t
pub record Source (f : ℕ → Option ℕ) (a b t x : ℕ) : Type 0 where
  pub from : a ≤ x
  pub below : x < b
  pub lands : f x ≡ some t

-- x < y are addresses of the window that share a translation
pub record Clash (f : ℕ → Option ℕ) (a b x y : ℕ) : Type 0 where
  pub from : a ≤ x
  pub apart : x < y
  pub below : y < b
  pub target : ℕ
  pub first : f x ≡ some target
  pub second : f y ≡ some target

-- of all pairs that clash p has the least first address, and of those the least second one
pub record LeastClash (f : ℕ → Option ℕ) (a b : ℕ) (p : Pair) : Type 0 where
  pub is : Clash f a b p.first p.second
  pub least : (x y : ℕ) → Clash f a b x y → (p.first < x) ⊎ ((p.first ≡ x) × (p.second ≤ y))

-- x is the one address of the window that lands on t
pub record OneSource (f : ℕ → Option ℕ) (a b t x : ℕ) : Type 0 where
  pub is : Source f a b t x
  pub only : (v : ℕ) → Source f a b t v → v ≡ x

-- x < y are the two least addresses of the window that land on t
pub record TwoSources (f : ℕ → Option ℕ) (a b t x y : ℕ) : Type 0 where
  pub first : Source f a b t x
  pub second : Source f a b t y
  pub apart : x < y
  pub least : (v : ℕ) → Source f a b t v → (v ≡ x) ⊎ (y ≤ v)

-- the check reports a clash
pub record Reported (s : List ℕ) (a b : ℕ) : Type 0 where
  pub pair : Pair
  pub is : clash_spec s a b ≡ value (some pair)

-- two different addresses of the window share a translation
pub record Shares (s : List ℕ) (a b : ℕ) : Type 0 where
  pub first : ℕ
  pub second : ℕ
  pub clash : Clash (looked_up true s) a b first second

-- Demand 3, of the clash check, the way back and the single lookup
pub record Demand3 (s : List ℕ) (a b : ℕ) : Type 0 where
  -- a clash is reported exactly if two different addresses of the window share a translation, and the pair is the least
  pub reports : Shares s a b → Reported s a b
  pub reported : (r : Reported s a b) → LeastClash (looked_up true s) a b r.pair
  -- there is no other answer than a clash and "single"
  pub otherwise : (Reported s a b → ⊥) → clash_spec s a b ≡ value none
  -- where the window is single, going back yields the one source, or none exactly if no address lands there
  pub source : clash_spec s a b ≡ value none → (t x : ℕ) → Source (looked_up true s) a b t x → back_spec s a b t ≡ value
      (one x)
  pub no_source : clash_spec s a b ≡ value none → (t : ℕ) → ((x : ℕ) → Source (looked_up true s) a b t x → ⊥)
      → back_spec s a b t ≡ nothing
