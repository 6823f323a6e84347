-- What rows and pivots are where nothing is at fault.
use Rattle.std.specs.Prelude.{ℕ, ◌≤◌, ◌<◌}
use mathlib.Core.List.{List, [], ◌∷◌, Memᴰ}
use Rattle.rules.specs.Day.{Row, Sound}
use Rattle.rules.specs.Pivots.{Pivot}

-- rows that are sound, and whose starts do not fall
pub data Good (n : ℕ) : List Row → Type 0 where
  good_none : Good n []
  good_more : {r : Row} {rs : List Row} → Sound n r → ((q : Row) → Memᴰ q rs → r.start ≤ q.start) → Good n rs → Good n (r ∷ rs)

-- a pivot whose stop is below n, and whose reading lies in A to W
pub record Sits (n A W : ℕ) (p : Pivot) : Type 0 where
  pub below : p.stop < n
  pub not_before : A ≤ p.reading
  pub not_after : p.reading ≤ W
