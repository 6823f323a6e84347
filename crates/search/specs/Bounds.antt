-- The bounds of targets, as a fold over the legs. Place v holds v's bound, or nowhere.
use Rattle.std.specs.Prelude.{ℕ, max, cond, List, [], ◌∷◌, eqb, get_or, set, replicate}
use Rattle.rules.specs.Day.{Row, arrival}
use Rattle.passes.specs.Forward.{nowhere}

-- the later of a bound, if there is one, and another arrival
abbrev pub later_of : (bound arrive : ℕ) → ℕ
later_of bound arrive = cond (eqb bound nowhere) arrive (max bound arrive)

-- the bounds after one leg more
unfoldable pub entered : List ℕ → Row → List ℕ
entered bs q = set bs q.to (later_of (get_or bs q.to 0) (arrival q))

-- after all of the legs
unfoldable pub entered_by : List Row → List ℕ → List ℕ
entered_by [] bs = bs
entered_by (q ∷ qs) bs = entered_by qs (entered bs q)

-- the bounds of n stops
abbrev pub bounds_of : (n : ℕ) → List Row → List ℕ
bounds_of n qs = entered_by qs (replicate n nowhere)
