-- Back from a pivot: one scan from the last leg to the first. Place u of the state holds one more than the latest start of a
-- route from u that reaches the pivot's stop in time, or 0.
use Rattle.std.specs.Prelude.{ℕ, ◌+◌, max, cond, List, [], ◌∷◌, ltb, get_or, set, replicate}
use Rattle.rules.specs.Day.{Row, arrival}

-- what a leg gives to its from-stop, where `there` is the number of its to-stop
abbrev pub caught : (there start arrive : ℕ) → ℕ
caught there start arrive = cond (ltb arrive there) (start + 1) 0

-- the numbers after one leg
abbrev pub caught_by : List ℕ → (from to start arrive : ℕ) → List ℕ
caught_by st from to start arrive = set st from (max (caught (get_or st to 0) start arrive) (get_or st from 0))

-- the numbers after some legs, the last taken first
unfoldable pub reached_back : List Row → List ℕ → List ℕ
reached_back [] st = st
reached_back (r ∷ rs) st = let rest = reached_back rs st in caught_by rest r.from r.to r.start (arrival r)

-- at first only the pivot's own stop is in time
unfoldable pub reach_init : (by stop n : ℕ) → List ℕ
reach_init by stop n = set (replicate n 0) stop (by + 1)
