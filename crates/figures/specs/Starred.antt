-- Day D, stop by stop: the starred cases, as one list under one statement. Laws/Starred proves it.
use Rattle.std.specs.Prelude.{ℕ, suc, List, [], ◌∷◌}
use Rattle.std.proofs.Math.Option.{Option, none, some}
use Rattle.rules.specs.Day.{Ask, asker's_day}
use Rattle.rules.specs.Routes.{Dist, unreached, after, Earliest}
use Rattle.rules.specs.Eccentricity.{Forward, Backward}
use Rattle.rules.specs.Diameter.{Targets, Shown, NoneShown}
use Rattle.rules.specs.Figures.{Pairs, Bounds, JoinedPairs, PivotBounds}

unfoldable pub day_d : List ℕ
day_d =
    0 ∷ 1 ∷ 100 ∷ 20 ∷ 0
    ∷ 1 ∷ 2 ∷ 120 ∷ 30 ∷ 0
    ∷ 0 ∷ 2 ∷ 130 ∷ 10 ∷ 7
    ∷ 1 ∷ 4 ∷ 130 ∷ 5 ∷ 9
    ∷ 2 ∷ 3 ∷ 145 ∷ 15 ∷ 0
    ∷ 2 ∷ 3 ∷ 150 ∷ 40 ∷ 0
    ∷ 3 ∷ 4 ∷ 200 ∷ 5 ∷ 0
    ∷ []

-- day D has five stops
abbrev pub on_day_d : (asker A W : ℕ) → Ask
on_day_d asker A W = record { list = day_d; n = 5; asker = asker; A = A; W = W }

-- each case begins with the asker, A and W; pivots are numbers, two to a pivot
pub data Case : Type 0 where
  distances_from_lem : (asker A W source : ℕ) → List Dist → Case
  forward : (asker A W source : ℕ) → Option ℕ → Case
  backward : (asker A W target : ℕ) → Option ℕ → Case
  diameter : (asker A W d u v visits : ℕ) → Case
  pivot_diameter_lem : (asker A W : ℕ) → List ℕ → (d u v visits : ℕ) → Case
  pivot_none : (asker A W : ℕ) → List ℕ → (visits : ℕ) → Case
  pivot_bound : (asker A W : ℕ) → List ℕ → (v b : ℕ) → Case
  pivot_targets : (asker A W : ℕ) → List ℕ → (targets : List ℕ) → Case

-- the list gives the figures of the stops from v on
abbrev pub From : (Is : ℕ → Dist → Type 0) (v : ℕ) → List Dist → Type 0
From Is v [] = Unit {0}
From Is v (d ∷ ds) = Is v d × From Is (suc v) ds

abbrev pub Holds : Case → Type 0
Holds (distances_from_lem asker A W u ds) = From (Earliest (asker's_day (on_day_d asker A W)) A W u) 0 ds
Holds (forward asker A W u x) = Forward (Pairs (on_day_d asker A W)) u x
Holds (backward asker A W v x) = Backward (Pairs (on_day_d asker A W)) v x
Holds (diameter asker A W d u v k) = Shown (Pairs (on_day_d asker A W)) (Bounds (on_day_d asker A W)) d u v k
Holds (pivot_diameter_lem asker A W ps d u v k) = Shown (JoinedPairs (on_day_d asker A W) ps) (PivotBounds (on_day_d asker A W) ps) d u v k
Holds (pivot_none asker A W ps k) = NoneShown (JoinedPairs (on_day_d asker A W) ps) (PivotBounds (on_day_d asker A W) ps) k
Holds (pivot_bound asker A W ps v b) = PivotBounds (on_day_d asker A W) ps v b
Holds (pivot_targets asker A W ps vs) = Targets (PivotBounds (on_day_d asker A W) ps) vs

abbrev pub Each : List Case → Type 0
Each [] = Unit {0}
Each (c ∷ cs) = Holds c × Each cs

abbrev pub starred : List Case
starred =
    distances_from_lem 0 100 300 0 (after 0 ∷ after 20 ∷ after 50 ∷ after 90 ∷ after 105 ∷ [])
    ∷ distances_from_lem 0 100 300 2 (unreached ∷ unreached ∷ after 0 ∷ after 60 ∷ after 105 ∷ [])
    ∷ distances_from_lem 7 100 300 0 (after 0 ∷ after 20 ∷ after 40 ∷ after 60 ∷ after 105 ∷ [])
    ∷ distances_from_lem 9 100 300 0 (after 0 ∷ after 20 ∷ after 50 ∷ after 90 ∷ after 35 ∷ [])
    ∷ forward 9 100 300 0 (some 90)
    ∷ forward 0 100 300 4 none
    ∷ backward 0 100 300 4 (some 105)
    ∷ diameter 0 100 300 105 0 4 1
    ∷ diameter 9 100 300 105 2 4 1
    ∷ distances_from_lem 0 100 100 0 (after 0 ∷ unreached ∷ unreached ∷ unreached ∷ unreached ∷ [])
    ∷ distances_from_lem 0 100 100 1 (unreached ∷ after 0 ∷ unreached ∷ unreached ∷ unreached ∷ [])
    ∷ distances_from_lem 0 100 100 2 (unreached ∷ unreached ∷ after 0 ∷ unreached ∷ unreached ∷ [])
    ∷ distances_from_lem 0 100 100 3 (unreached ∷ unreached ∷ unreached ∷ after 0 ∷ unreached ∷ [])
    ∷ distances_from_lem 0 100 100 4 (unreached ∷ unreached ∷ unreached ∷ unreached ∷ after 0 ∷ [])
    ∷ distances_from_lem 7 100 100 0 (after 0 ∷ unreached ∷ unreached ∷ unreached ∷ unreached ∷ [])
    ∷ distances_from_lem 7 100 100 1 (unreached ∷ after 0 ∷ unreached ∷ unreached ∷ unreached ∷ [])
    ∷ distances_from_lem 7 100 100 2 (unreached ∷ unreached ∷ after 0 ∷ unreached ∷ unreached ∷ [])
    ∷ distances_from_lem 7 100 100 3 (unreached ∷ unreached ∷ unreached ∷ after 0 ∷ unreached ∷ [])
    ∷ distances_from_lem 7 100 100 4 (unreached ∷ unreached ∷ unreached ∷ unreached ∷ after 0 ∷ [])
    ∷ distances_from_lem 9 100 100 0 (after 0 ∷ unreached ∷ unreached ∷ unreached ∷ unreached ∷ [])
    ∷ distances_from_lem 9 100 100 1 (unreached ∷ after 0 ∷ unreached ∷ unreached ∷ unreached ∷ [])
    ∷ distances_from_lem 9 100 100 2 (unreached ∷ unreached ∷ after 0 ∷ unreached ∷ unreached ∷ [])
    ∷ distances_from_lem 9 100 100 3 (unreached ∷ unreached ∷ unreached ∷ after 0 ∷ unreached ∷ [])
    ∷ distances_from_lem 9 100 100 4 (unreached ∷ unreached ∷ unreached ∷ unreached ∷ after 0 ∷ [])
    ∷ pivot_diameter_lem 0 100 199 (2 ∷ 150 ∷ []) 90 0 3 1
    ∷ pivot_diameter_lem 0 100 199 (2 ∷ 149 ∷ []) 60 2 3 1
    ∷ pivot_targets 0 100 199 (2 ∷ 149 ∷ []) (3 ∷ 2 ∷ [])
    ∷ pivot_bound 0 100 199 (2 ∷ 149 ∷ []) 3 90
    ∷ pivot_diameter_lem 0 100 300 (3 ∷ 250 ∷ 2 ∷ 150 ∷ []) 105 0 4 2
    ∷ pivot_targets 0 100 300 (3 ∷ 250 ∷ 2 ∷ 150 ∷ []) (3 ∷ 4 ∷ 2 ∷ [])
    ∷ pivot_bound 0 100 300 (3 ∷ 250 ∷ 2 ∷ 150 ∷ []) 3 150
    ∷ pivot_bound 0 100 300 (3 ∷ 250 ∷ 2 ∷ 150 ∷ []) 4 105
    ∷ pivot_bound 0 100 300 (3 ∷ 250 ∷ 2 ∷ 150 ∷ []) 2 50
    ∷ pivot_none 0 100 110 (0 ∷ 105 ∷ []) 1
    ∷ pivot_none 0 100 110 (0 ∷ 100 ∷ []) 0
    ∷ []
