-- What a search is over, and what it ends with.
use Rattle.std.specs.Prelude.{ℕ, ◌≡◌, ◌≢◌}
use mathlib.Core.List.{List}
use Rattle.rules.specs.Day.{Row}
use Rattle.rules.specs.Routes.{Earliest}
use Rattle.rules.specs.Eccentricity.{Reached}
use Rattle.rules.specs.Diameter.{Shown, NoneShown}
use Rattle.rules.specs.Pivots.{Pivot, Joined}
use Rattle.passes.specs.Days.{rows_day}
use Rattle.search.specs.declared.state.Search.{Search}

-- the pairs of different stops that are reached, with their distance; and those of them that some pivot joins
abbrev pub ReachedPairs : (rs : List Row) (A W n u v d : ℕ) → Type 0
ReachedPairs rs A W n = Reached n (Earliest (rows_day rs) A W)

abbrev pub ReachedJoined : (rs : List Row) (A W n : ℕ) → List Pivot → (u v d : ℕ) → Type 0
ReachedJoined rs A W n pivots u v d = ReachedPairs rs A W n u v d × Joined (rows_day rs) A W pivots u v

-- what a state says at the end: none where the best value is 0, else the value and the pair
pub record Right (Pair : ℕ → ℕ → ℕ → Type 0) (Bound : ℕ → ℕ → Type 0) (st : Search) : Type 0 where
  pub none_shown : st.best ≡ 0 → NoneShown Pair Bound st.visits
  pub shown : st.best ≢ 0 → Shown Pair Bound st.best st.source st.target st.visits
