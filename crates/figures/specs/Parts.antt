-- The table in the parts in which the calls check it, and what the first part leaves.
use Rattle.std.specs.Prelude.{ℕ, ◌+◌, ◌*◌, ◌/◌, ◌≤◌, ◌<◌, ◌≡◌, ◌⊎◌, List, [], ◌∷◌, ◌++◌, length, take, Result, Ok, Err}
use Rattle.std.specs.Coded.{le_prop}
use Rattle.rules.specs.Clock.{horizon}
use Rattle.rules.specs.Day.{most_stops, most_rows, row_width, Row, rows_of, Ask, asker's_rows}
use Rattle.rules.specs.Pivots.{pivots_of}
use Rattle.rules.specs.Struck.{numbers}
use Rattle.rules.specs.Lent.{Stands, Copied}
use Rattle.rules.specs.Table.{Check, Takes, check_1, check_2, check_3, check_4, check_5, check_6, check_7, check_8, check_9, check_10, check_12, Clear, Refuses}
use Rattle.rules.specs.Faultless.{Good}
use Rattle.passes.specs.Legs.{legs_of, made_legs, alone, Laid}
use Rattle.passes.specs.Links.{Orderly, AllLinked, good_prop}
use Rattle.passes.specs.declared.legs.Leg.{Leg}
use Rattle.passes.specs.declared.links.Links.{Links}
use Rattle.passes.specs.Days.{rows_day}
use Rattle.day.specs.Refusals.{number_of, place_of}
use Rattle.day.specs.declared.refusal.Refusal.{Refusal}

-- numbers 1, 2 and 3
abbrev pub list_checks : (list : List ℕ) (n : ℕ) → List Check
list_checks list n = check_1 list ∷ check_2 list ∷ check_3 n ∷ []

-- numbers 1 to 5
abbrev pub plain_checks : Ask → List Check
plain_checks q = check_1 q.list ∷ check_2 q.list ∷ check_3 q.n ∷ check_4 q.asker ∷ check_5 q.A q.W ∷ []

-- number 6
abbrev pub own_check : Ask → List Check
own_check q = check_6 q.n (asker's_rows q) ∷ []

-- numbers 1 to 6
abbrev pub first_checks : Ask → List Check
first_checks q = plain_checks q ++ own_check q

-- numbers 7 to 12: they read own rows and no others
abbrev pub last_checks : List Row → (n A W : ℕ) → Takes → List Check
last_checks rs n A W t =
    check_7 n t.named
    ∷ check_8 t.pivots
    ∷ check_9 n A W (pivots_of t.pivots)
    ∷ check_10 t.rooms
    ∷ check_12 (rows_day rs) A W (pivots_of t.pivots)
    ∷ []

-- what the first checks leave: good rows, a number of stops, an interval
pub record Ready (n A W : ℕ) (rows : List ℕ) : Type 0 where
  pub good : Good n (rows_of rows)
  pub some_stop : 1 ≤ n
  pub few_stops : n ≤ most_stops
  pub few : length rows / row_width ≤ most_rows
  pub in_order : A ≤ W
  pub in_day : W ≤ horizon

-- it has one proof, so that a value can carry it
pub ready_prop : (n A W : ℕ) (rows : List ℕ) → IsProp (Ready n A W rows)
ready_prop n A W rows x y =
    λ i. record {
      good = good_prop n (rows_of rows) x.good y.good i;
      some_stop = le_prop x.some_stop y.some_stop i;
      few_stops = le_prop x.few_stops y.few_stops i;
      few = le_prop x.few y.few i;
      in_order = le_prop x.in_order y.in_order i;
      in_day = le_prop x.in_day y.in_day i;
    }

-- numbers 1 to 6 by cases: the asker's rows in the front of the room, or a refusal; by numbers 1 to 5 with the room unchanged,
-- or by number 6 with the rows in it
abbrev pub Prepares : Ask → (old : List ℕ) → Result ℕ Refusal → (new : List ℕ) → Type 0
Prepares q old (Ok k) new = Clear (first_checks q) × Copied row_width numbers (asker's_rows q) old k new
Prepares q old (Err r) new =
    (Refuses (plain_checks q) (number_of r) (place_of r) × (new ≡ old))
    ⊎ (Clear (plain_checks q) × Refuses (own_check q) (number_of r) (place_of r) × ((k : ℕ) × Copied row_width numbers (asker's_rows q) old k new))

-- the legs of some rows between n stops, in the order that a pass and the links need
pub record LegsLaid (n A W : ℕ) (rs : List Row) (legs : List Leg) : Type 0 where
  pub is : legs ≡ made_legs (legs_of A W rs)
  pub laid : Laid n legs
  pub orderly : Orderly legs

-- the legs of some rows stand in the front of a room and are linked, and the places that belong to no leg are kept
pub record LegsLinked (A W : ℕ) (rs : List Row) (old : List Leg) (links : Links) (count : ℕ) (new : List Leg) (links' : Links) : Type 0 where
  pub copied : Copied 1 alone (legs_of A W rs) old count new
  pub within : count ≤ length new
  pub linked : AllLinked (take count new) links links'

-- each source u has its own stretch of the table, from place u × n
abbrev pub Stretched : List Row → (n A W : ℕ) → (place number : ℕ) → Type 0
Stretched rs n A W place number = (u v : ℕ) → u < n → v < n → place ≡ u * n + v → Stands (rows_day rs) A W u v number
