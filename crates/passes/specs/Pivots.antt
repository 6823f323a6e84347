-- The numbers of a pivot over the legs: place v of the first list is the arrival at v onward from the pivot, place u of the second
-- is not 0 where u reaches the pivot in time.
use Rattle.std.specs.Prelude.{ℕ, ◌-◌, List}
use Rattle.rules.specs.Day.{Row}
use Rattle.rules.specs.Pivots.{Pivot}
use Rattle.passes.specs.Forward.{init, passed}
use Rattle.passes.specs.Reach.{reached_back, reach_init}

abbrev pub onward_pivot : (n A : ℕ) → List Row → Pivot → List ℕ
onward_pivot n A ls p = passed ls (init (p.reading - A) p.stop n)

abbrev pub into_pivot : (n A : ℕ) → List Row → Pivot → List ℕ
into_pivot n A ls p = reached_back ls (reach_init (p.reading - A) p.stop n)
