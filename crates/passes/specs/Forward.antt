-- The forward pass: one scan of the rows in list order. Place v of the state holds the least arrival found at stop v, or nowhere.
use Rattle.std.specs.Prelude.{ℕ, zero, suc, min, Bool, cond, ◌&&◌, List, [], ◌∷◌, ◌++◌, eqb, leb, ltb, get_or, set, replicate, Option, Some, None}
use Rattle.rules.specs.Day.{Row, arrival}
use Rattle.clock.specs.declared.Length.{Length}

-- above every reading; in a list of numbers it is unreached
abbrev pub nowhere : ℕ
nowhere = 4294967295

unfoldable pub usable : (W : ℕ) → Row → List ℕ → Bool
usable W r st = leb (get_or st r.from nowhere) r.start && (leb (arrival r) W && ltb (arrival r) (get_or st r.to nowhere))

unfoldable pub step : (W : ℕ) → Row → List ℕ → List ℕ
step W r st = cond (usable W r st) (set st r.to (arrival r)) st

unfoldable pub pass : (W : ℕ) → List Row → List ℕ → List ℕ
pass W [] st = st
pass W (r ∷ rs) st = pass W rs (step W r st)

-- at first stop u is reached at A, and no other
unfoldable pub init : (A u n : ℕ) → List ℕ
init A u n = set (replicate n nowhere) u A

-- the arrival that a number stands for, or none where it is unreached
abbrev pub arrival_of : ℕ → Option Length
arrival_of x = cond (eqb x nowhere) None (Some (record { 0 = x }))

-- the arrival at a leg's to-stop, known so far, once a rider who is at its from-stop at `here` may take the leg
abbrev pub offered : (here start arrive known : ℕ) → ℕ
offered here start arrive known = cond (eqb here nowhere) known (cond (leb here start) (min arrive known) known)

-- the arrivals after one leg
abbrev pub relaxed : List ℕ → (from to start arrive : ℕ) → List ℕ
relaxed st from to start arrive = set st to (offered (get_or st from 0) start arrive (get_or st to 0))

-- the arrivals after some legs
unfoldable pub passed : List Row → List ℕ → List ℕ
passed [] st = st
passed (r ∷ rs) st = passed rs (relaxed st r.from r.to r.start (arrival r))

-- the stretches of the first k sources, one after another
unfoldable pub stretches : (stretch : ℕ → List ℕ) (k : ℕ) → List ℕ
stretches stretch zero = []
stretches stretch (suc k) = stretches stretch k ++ stretch k

-- the stretch of source u
abbrev pub stretch_of : (n : ℕ) → List Row → (u : ℕ) → List ℕ
stretch_of n rs u = passed rs (init 0 u n)
