-- Diameter with skipped targets, over any pairs that count and any bounds: `Bound v b` says that v has the bound b.
use Rattle.std.specs.Prelude.{ℕ, suc, ◌-◌, ◌≤◌, ◌<◌, max, ◌≡◌, ◌↔◌}
use mathlib.Core.List.{List, [], ◌∷◌, Memᴰ}
use Rattle.std.proofs.Math.Option.{Option, none, some}
use Rattle.rules.specs.Words.{Least, Greatest}
use Rattle.rules.specs.Day.{Row, arrival, Day}
use Rattle.rules.specs.Eccentricity.{Backward}

-- a row from A to W that enters v; it arrives b after A
pub record Entry (day : Day) (A W v b : ℕ) : Type 0 where
  pub row : Row
  pub listed : Memᴰ row day.rows
  pub enters : row.to ≡ v
  pub begins : A ≤ row.start
  pub ends : arrival row ≤ W
  pub bound : b ≡ arrival row - A

-- v's bound: the latest arrival of such rows, less A
abbrev pub LatestEntry : (day : Day) (A W v : ℕ) → ℕ → Type 0
LatestEntry day A W v = Greatest (Entry day A W v)

-- the order of targets: by falling bound, then rising number
pub data Before (Bound : ℕ → ℕ → Type 0) (v w : ℕ) : Type 0 where
  bound_falls : {b c : ℕ} → Bound v b → Bound w c → c < b → Before Bound v w
  number_rises : {b : ℕ} → Bound v b → Bound w b → v < w → Before Bound v w

pub data Sorted (Bound : ℕ → ℕ → Type 0) : List ℕ → Type 0 where
  sorted_none : Sorted Bound []
  sorted_more : {v : ℕ} {vs : List ℕ} → ((w : ℕ) → Memᴰ w vs → Before Bound v w) → Sorted Bound vs → Sorted Bound (v ∷ vs)

-- the targets, the stops that have a bound, in order
pub record Targets (Bound : ℕ → ℕ → Type 0) (vs : List ℕ) : Type 0 where
  pub sorted : Sorted Bound vs
  pub bounded : (v : ℕ) → Memᴰ v vs ↔ ((b : ℕ) × Bound v b)

-- none counts 0
abbrev pub counted : Option ℕ → ℕ
counted none = 0
counted (some d) = d

-- from a best value on, k of the targets are taken before the stop or the end
pub data Visits (Pair : ℕ → ℕ → ℕ → Type 0) (Bound : ℕ → ℕ → Type 0) : List ℕ → (best k : ℕ) → Type 0 where
  at_end : {best : ℕ} → Visits Pair Bound [] best 0
  stop : {v b best : ℕ} {vs : List ℕ} → Bound v b → b ≤ best → Visits Pair Bound (v ∷ vs) best 0
  visit : {v b best k : ℕ} {vs : List ℕ} (e : Option ℕ) → Bound v b → best < b → Backward Pair v e
      → Visits Pair Bound vs (max best (counted e)) k → Visits Pair Bound (v ∷ vs) best (suc k)

-- the first of the list of which P holds
pub data First (P : ℕ → Type 0) : List ℕ → ℕ → Type 0 where
  here : {v : ℕ} {vs : List ℕ} → P v → First P (v ∷ vs) v
  further : {v w : ℕ} {vs : List ℕ} → (P v → ⊥) → First P vs w → First P (v ∷ vs) w

-- the greatest distance over all pairs is d, shown by the pair from u to v, after so many visits
pub record Shown (Pair : ℕ → ℕ → ℕ → Type 0) (Bound : ℕ → ℕ → Type 0) (d u v visits : ℕ) : Type 0 where
  pub greatest : Greatest (λ distance. (from : ℕ) × (to : ℕ) × Pair from to distance) d
  pub order : List ℕ
  pub targets : Targets Bound order
  pub taken : Visits Pair Bound order 0 visits
  pub target : First (λ to. Backward Pair to (some d)) order v
  pub source : Least (λ from. Pair from v d) u

-- no pair counts, and so many visits
pub record NoneShown (Pair : ℕ → ℕ → ℕ → Type 0) (Bound : ℕ → ℕ → Type 0) (visits : ℕ) : Type 0 where
  pub nobody : (u v d : ℕ) → Pair u v d → ⊥
  pub order : List ℕ
  pub targets : Targets Bound order
  pub taken : Visits Pair Bound order 0 visits
