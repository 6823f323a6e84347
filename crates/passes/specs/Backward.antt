-- The backward recurrence: the earliest arrival at a target, leg by leg from the last.
use Rattle.std.specs.Prelude.{ℕ, zero, suc, ◌-◌, ◌≤◌, ◌<◌, min, ◌≡◌, cond, ◌&&◌, List, [], ◌∷◌, eqb, leb, length, get_or, set}
use Rattle.rules.specs.Day.{Row, arrival}
use Rattle.passes.specs.Forward.{nowhere}
use Rattle.passes.specs.declared.legs.Leg as declared
use Rattle.passes.specs.Links.{link_places, leg_no, legs_past, Beside}

-- by one leg: it enters the target, or x is the earliest arrival by what may follow it
abbrev pub by : (target : ℕ) → Row → (x : ℕ) → ℕ
by target r x = cond (eqb r.to target) (arrival r) x

-- the earliest arrival at the target by the legs that leave stop s at t or later
unfoldable pub earliest : (target s t : ℕ) → List Row → ℕ
earliest target s t [] = nowhere
earliest target s t (r ∷ rs) =
    let rest = earliest target s t rs in
    cond (eqb r.from s && leb t r.start) (min (by target r (earliest target r.to (arrival r) rs)) rest) rest

-- the earliest arrival by leg k or a later one of its from-stop
abbrev pub earliest_by : List declared.Leg → (target k : ℕ) → ℕ
earliest_by list target k = earliest target (leg_no list k).from 0 (legs_past list (k - 1))

-- the legs with numbers above k are swept
pub record Swept (list : List declared.Leg) (target k : ℕ) (best : List ℕ) : Type 0 where
  pub long : length best ≡ link_places
  pub none : get_or best 0 0 ≡ nowhere
  pub each : (x : ℕ) → k < x → x ≤ length list → get_or best x 0 ≡ earliest_by list target x

-- all legs are swept: place 0, which is for no leg, is nowhere, and the places past the legs are kept
pub record Sweeps (list : List declared.Leg) (target : ℕ) (old new : List ℕ) : Type 0 where
  pub swept : Swept list target 0 new
  pub kept : Beside list 0 (set old 0 nowhere) new

-- what stands for the distance from stop u to the target
abbrev pub distance_to : (target : ℕ) → List Row → (u : ℕ) → ℕ
distance_to target ls u = cond (eqb u target) 0 (earliest target u 0 ls)

-- the same for k stops, from stop u on
unfoldable pub distances_to : (target : ℕ) → List Row → (k u : ℕ) → List ℕ
distances_to target ls zero u = []
distances_to target ls (suc k) u = distance_to target ls u ∷ distances_to target ls k (suc u)
