-- Legs: the rows that a compatible route may use, with their times as lengths since A.
use Rattle.std.specs.Prelude.{ℕ, ◌-◌, ◌≤◌, ◌<◌, Bool, cond, ◌&&◌, ◌≡◌, List, [], ◌∷◌, leb, length, get_or, map, Option, Some, None}
use Rattle.rules.specs.Words.{written}
use Rattle.rules.specs.Day.{Row, arrival, Day}
use Rattle.passes.specs.declared.legs.Leg as declared

-- a row, its start a length since A; whose it was no longer matters
abbrev pub leg_of : (A : ℕ) → Row → Row
leg_of A r = record { from = r.from; to = r.to; start = r.start - A; travel = r.travel; owner = 0 }

-- the row starts at A or later and arrives by W
abbrev pub fitsb : (A W : ℕ) → Row → Bool
fitsb A W r = leb A r.start && leb (arrival r) W

-- the legs of some rows, in their order
unfoldable pub legs_of : (A W : ℕ) → List Row → List Row
legs_of A W [] = []
legs_of A W (r ∷ rs) = let rest = legs_of A W rs in cond (fitsb A W r) (leg_of A r ∷ rest) rest

abbrev pub leg_day : (A W : ℕ) → List Row → Day
leg_day A W rs = record { rows = legs_of A W rs }

-- a leg of the code as a row
abbrev pub row_of_leg : declared.Leg → Row
row_of_leg l = record { from = l.from; to = l.to; start = l.start.0; travel = l.arrive.0 - l.start.0; owner = 0 }

-- a row as the code keeps it, alone in a list
abbrev pub alone : Row → List declared.Leg
alone r = record { from = r.from; to = r.to; start = record { 0 = r.start }; arrive = record { 0 = arrival r } } ∷ []

-- where there is no leg
abbrev pub no_leg : declared.Leg
no_leg = record { from = 0; to = 0; start = record { 0 = 0 }; arrive = record { 0 = 0 } }

-- some rows so
abbrev pub made_legs : List Row → List declared.Leg
made_legs = written alone

-- leg j of the legs, from 0
abbrev pub leg_at : List declared.Leg → ℕ → Row
leg_at list j = row_of_leg (get_or list j no_leg)

-- the legs as rows
abbrev pub legs_in : List declared.Leg → List Row
legs_in list = map row_of_leg list

-- what is read of leg j
pub record LegRead (list : List declared.Leg) (j : ℕ) (leg : declared.Leg) : Type 0 where
  pub is : leg ≡ get_or list j no_leg

-- each leg goes between stops below n, and arrives no earlier than it starts
pub record Laid (n : ℕ) (list : List declared.Leg) : Type 0 where
  pub from_below : (j : ℕ) → j < length list → (get_or list j no_leg).from < n
  pub to_below : (j : ℕ) → j < length list → (get_or list j no_leg).to < n
  pub rises : (j : ℕ) → j < length list → (get_or list j no_leg).start.0 ≤ (get_or list j no_leg).arrive.0

-- a row as a leg, if it starts at A or later and arrives by W
abbrev pub made_leg : (A W : ℕ) → Row → Option declared.Leg
made_leg A W r = cond (fitsb A W r) (Some (record { from = r.from; to = r.to; start = record { 0 = r.start - A }; arrive = record { 0 = arrival r - A } })) None
