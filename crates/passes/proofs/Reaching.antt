-- The loop of the scan back from a pivot: one leg more, from the last to the first.
use Prim.Native.Nat.{ℕ, suc, ◌+◌, ◌-◌, ◌≤◌, ◌<◌}
use native.Mathlib.Omega.{arith}
use mathlib.Core.Path.{◌≡◌, refl, ap, sym, ◌∙◌}
use mathlib.Core.List.{List, reverse}
use lib.ListN.{length, get_or}
use Rattle.std.proofs.lemmas.List.{get_or_default, get_or-reverse, length-reverse}
use Rattle.rules.specs.Words.{things_from}
use Rattle.rules.specs.Day.{Row}
use Rattle.rules.proofs.Laws.Written.{things_more}
use Rattle.passes.specs.Legs.{leg_at, no_leg, Laid, LegRead}
use Rattle.passes.specs.Links.{legs_past}
use Rattle.passes.specs.Reach.{caught_by, reached_back}
use Rattle.passes.proofs.Laws.Links.{legs_past_things}
use Rattle.passes.proofs.Passing.{arrives}
use Rattle.passes.specs.declared.legs.Leg as declared

-- of the first m legs those with numbers above k are taken, and then leg k in front of them
pub reached_next : (list : List declared.Leg) (m k : ℕ) (l : declared.Leg) (st out : List ℕ) → 1 ≤ k → k ≤ m → LegRead list (k - 1) l → l.start.0 ≤ l.arrive.0
    → out ≡ reached_back (things_from (leg_at list) (m - k) k) st
    → caught_by out l.from l.to l.start.0 l.arrive.0 ≡ reached_back (things_from (leg_at list) (m - (k - 1)) (k - 1)) st
unfolding reached_back
reached_next list m k l st out one most read rises is =
    let leg = get_or list (k - 1) no_leg in
    let number : k - 1 + 1 ≡ k = omega arith in
    rw (read.is, is)
    (ap (λ (a : ℕ). caught_by (reached_back (things_from (leg_at list) (m - k) k) st) leg.from leg.to leg.start.0 a) (sym (arrives list (k - 1) (rw read.is at rises)))
    ∙ sym (ap (λ (rs : List Row). reached_back rs st) (things_more (leg_at list) m (k - 1) (omega arith)) ∙ rw number))

-- and so of all legs
reached_past : (list : List declared.Leg) (j : ℕ) (st out : List ℕ) → j < length list → (get_or list j no_leg).start.0 ≤ (get_or list j no_leg).arrive.0
    → out ≡ reached_back (legs_past list (suc j)) st
    → caught_by out (get_or list j no_leg).from (get_or list j no_leg).to (get_or list j no_leg).start.0 (get_or list j no_leg).arrive.0 ≡ reached_back (legs_past list j) st
reached_past list j st out h rises is =
    let number : suc j - 1 ≡ j = omega arith in
    rw (legs_past_things list j)
    (rw number at (reached_next list (length list) (suc j) (get_or list j no_leg) st out (omega arith) (omega arith) (rw number (record { is = refl })) rises (rw (legs_past_things list (suc j)) at is)))

-- of the legs from the last on, one after k others
pub reached_turn : (list : List declared.Leg) (n k : ℕ) (leg : declared.Leg) (st out : List ℕ) → Laid n list → (k < length (reverse list)) × (leg ≡ get_or (reverse list) k leg)
    → out ≡ reached_back (legs_past list (length list - k)) st
    → caught_by out leg.from leg.to leg.start.0 leg.arrive.0 ≡ reached_back (legs_past list (length list - (k + 1))) st
reached_turn list n k leg st out laid (l, e) is =
    let within : k < length list = omega (arith, length-reverse list) in
    let j : ℕ = length list - (k + 1) in
    let back : length list - 1 - k ≡ j = omega arith in
    let next : length list - k ≡ suc j = omega arith in
    let inside : j < length list = omega arith in
    let here : leg ≡ get_or list j no_leg = e ∙ (get_or-reverse list k leg within ∙ (rw back (get_or_default list j leg no_leg inside))) in
    rw here (reached_past list j st out inside (laid.rises j inside) (rw next at is))
