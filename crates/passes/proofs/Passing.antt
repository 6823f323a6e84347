-- The loop of the pass: one leg more, and what stays outside the stops.
use Prim.Native.Nat.{ℕ, suc, ◌+◌, ◌-◌, ◌≤◌, ◌<◌}
use native.Mathlib.Omega.{arith}
use mathlib.Core.Path.{◌≡◌, refl, ap, ◌∙◌}
use mathlib.Core.List.Memᴰ
use mathlib.Core.List.{List, [], ◌∷◌, Memᴰ}
use lib.ListN.{length, get_or}
use Rattle.rules.specs.Words.{things_from}
use Rattle.rules.specs.Day.{Row, arrival}
use Rattle.rules.proofs.Laws.Written.{things_more}
use Rattle.passes.specs.Legs.{leg_at, legs_in, no_leg, Laid, LegRead}
use Rattle.passes.specs.Links.{legs_past}
use Rattle.passes.specs.Forward.{relaxed, passed}
use Rattle.passes.proofs.Laws.Links.{legs_past_things}
use Rattle.passes.proofs.Laws.Passed.{Inside}
use Rattle.passes.specs.declared.legs.Leg as declared

-- a leg that does not fall arrives at its arrival
pub arrives : (list : List declared.Leg) (j : ℕ) → (get_or list j no_leg).start.0 ≤ (get_or list j no_leg).arrive.0 → arrival (leg_at list j) ≡ (get_or list j no_leg).arrive.0
arrives list j rises = omega arith

-- of the first m legs those from leg j on: leg j is taken, and then those after it
pub passed_next : (list : List declared.Leg) (m j : ℕ) (l : declared.Leg) (st : List ℕ) → j < m → LegRead list j l → l.start.0 ≤ l.arrive.0
    → passed (things_from (leg_at list) (m - j) j) st ≡ passed (things_from (leg_at list) (m - (j + 1)) (j + 1)) (relaxed st l.from l.to l.start.0 l.arrive.0)
unfolding passed
passed_next list m j l st h read rises =
    let leg = get_or list j no_leg in
    rw read.is
    (ap (λ (rs : List Row). passed rs st) (things_more (leg_at list) m j h)
    ∙ ap (λ (a : ℕ). passed (things_from (leg_at list) (m - (j + 1)) (j + 1)) (relaxed st leg.from leg.to leg.start.0 a)) (arrives list j (rw read.is at rises)))

-- and so of all legs
pub passed_past : (list : List declared.Leg) (j : ℕ) (st : List ℕ) → j < length list → (get_or list j no_leg).start.0 ≤ (get_or list j no_leg).arrive.0
    → passed (legs_past list j) st
    ≡ passed (legs_past list (j + 1)) (relaxed st (get_or list j no_leg).from (get_or list j no_leg).to (get_or list j no_leg).start.0 (get_or list j no_leg).arrive.0)
passed_past list j st h rises =
    rw (legs_past_things list j, legs_past_things list (j + 1))
    (passed_next list (length list) j (get_or list j no_leg) st h (record { is = refl }) rises)

pub laid_inside : (n : ℕ) (list : List declared.Leg) → Laid n list → Inside n (legs_in list)
laid_inside n [] h q m = absurd (Memᴰ.not-nil m)
laid_inside n (l ∷ list) h q (Memᴰ.head e) = rw e (h.from_below 0 (omega arith), h.to_below 0 (omega arith))
laid_inside n (l ∷ list) h q (Memᴰ.tail m) =
    laid_inside n list
    (record {
      from_below = λ j b. h.from_below (suc j) (omega arith);
      to_below = λ j b. h.to_below (suc j) (omega arith);
      rises = λ j b. h.rises (suc j) (omega arith);
    })
    q m
