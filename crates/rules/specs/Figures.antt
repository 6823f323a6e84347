-- The figures of an ask: each definition over the asker's day and the interval.
use Rattle.std.specs.Prelude.{ℕ, ◌+◌, ◌*◌, ◌<◌, ◌≡◌, List}
use Rattle.rules.specs.Day.{Ask, asker's_day}
use Rattle.rules.specs.Routes.{Earliest}
use Rattle.rules.specs.Eccentricity.{Reached}
use Rattle.rules.specs.Diameter.{LatestEntry}
use Rattle.rules.specs.Pivots.{pivots_of, Joined, LatestUnder}
use Rattle.rules.specs.Lent.{Stands}

-- the number that stands for the distance from u to v
abbrev pub DistanceOf : Ask → (u v number : ℕ) → Type 0
DistanceOf q = Stands (asker's_day q) q.A q.W

-- the table: each source u has its own stretch, from place u × n; a place below n × n is u × n + v for one u and one v below n
abbrev pub TableOf : Ask → (place number : ℕ) → Type 0
TableOf q place number = (u v : ℕ) → u < q.n → v < q.n → place ≡ u * q.n + v → DistanceOf q u v number

-- the pairs of different stops that are reached, with their distance; and the bounds of targets
abbrev pub Pairs : Ask → (u v d : ℕ) → Type 0
Pairs q = Reached q.n (Earliest (asker's_day q) q.A q.W)

abbrev pub Bounds : Ask → (v b : ℕ) → Type 0
Bounds q = LatestEntry (asker's_day q) q.A q.W

-- the same under pivots
abbrev pub JoinedPairs : Ask → (pivots : List ℕ) → (u v d : ℕ) → Type 0
JoinedPairs q pivots u v d = Pairs q u v d × Joined (asker's_day q) q.A q.W (pivots_of pivots) u v

abbrev pub PivotBounds : Ask → (pivots : List ℕ) → (v b : ℕ) → Type 0
PivotBounds q pivots = LatestUnder (asker's_day q) q.A q.W (pivots_of pivots)
