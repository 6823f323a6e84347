-- What the contracts on checks cite: a scan for the first row of which something is said, and what a verdict means.
use Rattle.std.specs.Prelude.{ℕ, ◌+◌, Bool, cond, List, [], ◌∷◌, ◌≡◌, ltb, Result, Ok, Err}
use Rattle.std.proofs.Math.Option.{Option, none, some}
use Rattle.rules.specs.Day.{last_client, Row}
use Rattle.rules.specs.Table.{row_fault, Check, Clear, Refuses}
use Rattle.day.specs.Rows.{row_of, rightb}
use Rattle.day.specs.Refusals.{number_of, place_of}
use Rattle.clock.specs.declared.Reading.{Reading}
use Rattle.day.specs.declared.row.Row as declared
use Rattle.day.specs.declared.refusal.Refusal.{Refusal}

-- a number and a place
pub record Said : Type 0 where
  pub number : ℕ
  pub place : ℕ

-- a number said of one row at a place, or what is found in the rest
abbrev pub said_or : Option ℕ → (place : ℕ) → Option Said → Option Said
said_or none place rest = rest
said_or (some k) place rest = some (record { number = k; place = place })

-- what is said of a row, told when the row before started
abbrev pub Says : Type 0
Says = (last : ℕ) → Row → Option ℕ

-- the first row of which `says` gives a number
unfoldable pub first_said : Says → (last place : ℕ) → List Row → Option Said
first_said says last place [] = none
first_said says last place (r ∷ rs) = let rest = first_said says r.start (place + 1) rs in said_or (says last r) place rest

-- 6 for a fault
abbrev pub fault_says : (n last : ℕ) → Row → Option ℕ
fault_says n last r = cond (rightb n last r) none (some row_fault)

-- 6 where the row is not right, else 11 where its owner is above 255
abbrev pub office_number : (right above : Bool) → Option ℕ
office_number right above = cond right (cond above (some 11) none) (some row_fault)

abbrev pub office_says : (n last : ℕ) → Row → Option ℕ
office_says n last r = office_number (rightb n last r) (ltb last_client r.owner)

-- what a verdict says
abbrev pub told : Result (Unit {0}) Refusal → Option Said
told (Ok x) = none
told (Err r) = some (record { number = number_of r; place = place_of r })

-- the check of a row says what `says` says, with the row's place
abbrev pub SaysBy : (check : declared.Row → Reading → (place : ℕ) → Result (Unit {0}) Refusal → Type 0) → Says → Type 0
SaysBy check says = (r : declared.Row) (last : Reading) (place : ℕ) (x : Result (Unit {0}) Refusal) → check r last place x → told x ≡ said_or (says last.0 (row_of r)) place none

-- a verdict is right: fine where no check is given, else the first that is
abbrev pub Judges : List Check → Result (Unit {0}) Refusal → Type 0
Judges checks (Ok x) = Clear checks
Judges checks (Err r) = Refuses checks (number_of r) (place_of r)
