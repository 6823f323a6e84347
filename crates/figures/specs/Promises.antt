-- What each call promises: its answer by cases, and what each lent list holds at exit (`out'`, `scratch'`).
use Rattle.std.specs.Prelude.{ℕ, ◌*◌, ◌≡◌, List, [], ◌∷◌, length, Option, Some, None, Result, Ok, Err}
use Rattle.std.proofs.Math.Option as rules
use Rattle.clock.specs.declared.Length.{Length}
use Rattle.rules.specs.Day.{rows_of, Ask}
use Rattle.rules.specs.Eccentricity.{Forward, Backward}
use Rattle.rules.specs.Diameter.{Shown, NoneShown}
use Rattle.rules.specs.Table.{Check, Room, Takes, table, office_table, Clear, Refuses}
use Rattle.rules.specs.Lent.{Fills, scratch_places, Wiped}
use Rattle.rules.specs.Figures.{DistanceOf, TableOf, Pairs, Bounds, JoinedPairs, PivotBounds}
use Rattle.day.specs.Refusals.{number_of, place_of}
use Rattle.day.specs.declared.refusal.Refusal.{Refusal}
use Rattle.figures.specs.declared.answers.Answer.{Answer}
use Rattle.figures.specs.declared.answers.Answer.TheVariants as answer
use Rattle.figures.specs.declared.ask.Ask as declared

-- what the calls answer, but for the diameters
abbrev pub Filled : Type 0
Filled = Result (Unit {0}) Refusal

abbrev pub Eccentricity : Type 0
Eccentricity = Result (Option Length) Refusal

abbrev pub Office : Type 0
Office = Result ℕ Refusal

-- a result is the refusal with this number and this place
abbrev pub IsRefusal : {T : Type 0} → Result T Refusal → (number place : ℕ) → Type 0
IsRefusal (Ok x) number place = ⊥
IsRefusal (Err r) number place = (number_of r ≡ number) × (place_of r ≡ place)

-- By cases. An answer comes where no check is given, it is right, and the lent lists are written; a refusal is the first check
-- that is given, and they are unchanged.
abbrev pub Fulfils : {T : Type 0} → List Check → (Answered : T → Type 0) (Unchanged : Type 0) → Result T Refusal → Type 0
Fulfils checks Answered Unchanged (Ok x) = Clear checks × Answered x
Fulfils checks Answered Unchanged (Err r) = Refuses checks (number_of r) (place_of r) × Unchanged

-- a call that fills lists answers no more
abbrev pub FulfilsFilling : List Check → (Written Unchanged : Type 0) → Filled → Type 0
FulfilsFilling checks Written Unchanged = Fulfils checks (λ x. Written) Unchanged

-- a length in seconds, or none
abbrev pub seconds : Option Length → rules.Option ℕ
seconds (Some d) = rules.some d.0
seconds None = rules.none

abbrev pub FulfilsEccentricity : List Check → (Is : rules.Option ℕ → Type 0) (Written Unchanged : Type 0) → Eccentricity → Type 0
FulfilsEccentricity checks Is Written Unchanged = Fulfils checks (λ d. Is (seconds d) × Written) Unchanged

abbrev pub FulfilsOffice : List Check → (rows : ℕ) → Office → Type 0
FulfilsOffice checks rows = Fulfils checks (λ k. k ≡ rows) (Unit {0})

abbrev pub FulfilsSearch : List Check → (Pair : ℕ → ℕ → ℕ → Type 0) (Bound : ℕ → ℕ → Type 0) (Written Unchanged : Type 0) → Answer → Type 0
FulfilsSearch checks Pair Bound Written Unchanged (answer.Value value from to visits) = Clear checks × Shown Pair Bound value.0 from to visits × Written
FulfilsSearch checks Pair Bound Written Unchanged (answer.Nothing visits) = Clear checks × NoneShown Pair Bound visits × Written
FulfilsSearch checks Pair Bound Written Unchanged (answer.Refused number place) = Refuses checks number place × Unchanged

-- what a call is given, as the rules name it
abbrev pub ask : (list : List ℕ) (n asker A W : ℕ) → Ask
ask list n asker A W = record { list = list; n = n; asker = asker; A = A; W = W }

abbrev pub asked : declared.Ask → Ask
asked q = ask q.list.now q.n q.asker q.a q.w

abbrev pub room : (lent : List ℕ) (wants : ℕ) → Room
room lent wants = record { has = length lent; wants = wants }

abbrev pub takes : (named pivots : List ℕ) → List Room → Takes
takes named pivots rooms = record { named = named; pivots = pivots; rooms = rooms }

-- the first n places become the distances from the source
unfoldable pub DistancesFromPromise : Ask → (source : ℕ) (out : List ℕ) → Filled → (out' : List ℕ) → Type 0
DistancesFromPromise q source out r out' =
    FulfilsFilling (table q (takes (source ∷ []) [] (room out q.n ∷ [])))
    (Fills q.n (DistanceOf q source) out out')
    (out' ≡ out) r

-- the first n places become the distances to the target, and scratch is set to 0
unfoldable pub DistancesToPromise : Ask → (target : ℕ) (out scratch : List ℕ) → Filled → (out' scratch' : List ℕ) → Type 0
DistancesToPromise q target out scratch r out' scratch' =
    FulfilsFilling (table q (takes (target ∷ []) [] (room out q.n ∷ room scratch scratch_places ∷ [])))
    (Fills q.n (λ u. DistanceOf q u target) out out' × Wiped scratch scratch')
    ((out' ≡ out) × (scratch' ≡ scratch)) r

-- the first n × n places become the table
unfoldable pub TablePromise : Ask → (out : List ℕ) → Filled → (out' : List ℕ) → Type 0
TablePromise q out r out' =
    FulfilsFilling (table q (takes [] [] (room out (q.n * q.n) ∷ [])))
    (Fills (q.n * q.n) (TableOf q) out out')
    (out' ≡ out) r

-- the greatest distance from the source to a different stop that is reached, or none
unfoldable pub ForwardEccentricityPromise : Ask → (source : ℕ) → Eccentricity → Type 0
ForwardEccentricityPromise q source r =
    FulfilsEccentricity (table q (takes (source ∷ []) [] [])) (Forward (Pairs q) source) (Unit {0}) (Unit {0}) r

-- the same with distances to the target
unfoldable pub BackwardEccentricityPromise : Ask → (target : ℕ) (scratch : List ℕ) → Eccentricity → (scratch' : List ℕ) → Type 0
BackwardEccentricityPromise q target scratch r scratch' =
    FulfilsEccentricity (table q (takes (target ∷ []) [] (room scratch scratch_places ∷ []))) (Backward (Pairs q) target)
    (Wiped scratch scratch')
    (scratch' ≡ scratch) r

-- the greatest distance over reached pairs of different stops, its pair and the visits, or none and the visits
unfoldable pub DiameterPromise : Ask → (scratch : List ℕ) → Answer → (scratch' : List ℕ) → Type 0
DiameterPromise q scratch r scratch' =
    FulfilsSearch (table q (takes [] [] (room scratch scratch_places ∷ []))) (Pairs q) (Bounds q)
    (Wiped scratch scratch')
    (scratch' ≡ scratch) r

-- the same over pairs joined by at least one pivot
unfoldable pub PivotDiameterPromise : Ask → (pivots scratch : List ℕ) → Answer → (scratch' : List ℕ) → Type 0
PivotDiameterPromise q pivots scratch r scratch' =
    FulfilsSearch (table q (takes [] pivots (room scratch scratch_places ∷ []))) (JoinedPairs q pivots) (PivotBounds q pivots)
    (Wiped scratch scratch')
    (scratch' ≡ scratch) r

-- the office check reads all rows, and where nothing is wrong it answers their number
unfoldable pub OfficePromise : (list : List ℕ) (n : ℕ) → Office → Type 0
OfficePromise list n r = FulfilsOffice (office_table list n) (length (rows_of list)) r
