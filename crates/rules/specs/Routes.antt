-- Routes and distances.
use Rattle.std.specs.Prelude.{ℕ, ◌-◌, ◌≤◌, ◌≡◌, ◌≢◌}
use mathlib.Core.List.{Memᴰ}
use Rattle.rules.specs.Words.{Least}
use Rattle.rules.specs.Day.{Row, arrival, Day}

-- r may follow q: it starts at the stop where q ended, and not before q's arrival. It takes the day, as every definition on routes
-- does, and reads nothing of it
pub record Follows (day : Day) (q r : Row) : Type 0 where
  pub meets : r.from ≡ q.to
  pub waits : arrival q ≤ r.start

-- a route by its first row and its last: one or more of the day's rows, each following the one before
pub data Route (day : Day) : Row → Row → Type 0 where
  ride : {r : Row} → Memᴰ r day.rows → Route day r r
  onto : {first q last : Row} → Memᴰ first day.rows → Follows day first q → Route day q last → Route day first last

-- a route from u to v that is compatible with A to W
pub record Compatible (day : Day) (A W u v : ℕ) : Type 0 where
  pub first : Row
  pub last : Row
  pub route : Route day first last
  pub leaves : first.from ≡ u
  pub enters : last.to ≡ v
  pub begins : A ≤ first.start
  pub ends : arrival last ≤ W

pub data Dist : Type 0 where
  unreached : Dist
  after : ℕ → Dist

-- the distance from u to v, for any cost of a compatible route: 0 from a stop to itself, the least cost, or unreached
pub data Distance (day : Day) (A W u v : ℕ) (cost : Compatible day A W u v → ℕ) : Dist → Type 0 where
  itself : u ≡ v → Distance day A W u v cost (after 0)
  reached : {d : ℕ} → u ≢ v → Least (λ c. (t : Compatible day A W u v) × (cost t ≡ c)) d → Distance day A W u v cost (after d)
  no_route : u ≢ v → (Compatible day A W u v → ⊥) → Distance day A W u v cost unreached

-- the earliest arrival distance: a route costs its last arrival less A
abbrev pub Earliest : (day : Day) (A W u v : ℕ) → Dist → Type 0
Earliest day A W u v = Distance day A W u v (λ t. arrival t.last - A)

-- in a list of numbers, unreached is 4,294,967,295
abbrev pub in_numbers : Dist → ℕ
in_numbers unreached = 4294967295
in_numbers (after d) = d
