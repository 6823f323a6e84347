-- Skipping targets never changes the value: a search that visits every target ends with the value that is told.
use Rattle.std.specs.Prelude.{ℕ, refl, ◌≢◌}
use Rattle.std.proofs.Common.{subst}
use mathlib.Core.List.{List, [], ◌∷◌}
use Rattle.std.proofs.Math.Option.{Option}
use Rattle.rules.specs.Day.{Ask, asker's_rows}
use Rattle.rules.specs.Eccentricity.{Backward}
use Rattle.rules.specs.Diameter.{Targets}
use Rattle.rules.specs.Pivots.{pivots_of}
use Rattle.rules.specs.Table.{Check, Takes, table, Clear}
use Rattle.rules.specs.Lent.{scratch_places}
use Rattle.rules.specs.Figures.{Pairs, Bounds, JoinedPairs, PivotBounds}
use Rattle.rules.proofs.Laws.Decided.{Accepted, accepted}
use Rattle.rules.proofs.Laws.Skipped.{AllVisited, all_visited, shown_unskipped, none_unskipped}
use Rattle.search.proofs.Laws.Greatest.{ecc_to, backward_right}
use Rattle.search.proofs.Laws.Pairs.{pair_of, pairs_told, bounds_told, joined_pair_of, joined_pairs_told, pivot_bounds_told}
use Rattle.figures.specs.declared.answers.Answer.{Answer}
use Rattle.figures.specs.declared.answers.Answer.TheVariants as answer
use Rattle.figures.specs.Promises.{room, takes, FulfilsSearch, DiameterPromise, PivotDiameterPromise}

-- the value that is told; none counts 0
abbrev pub value_of : Answer → ℕ
value_of (answer.Value value from to visits) = value.0
value_of (answer.Nothing visits) = 0
value_of (answer.Refused number place) = 0

-- over any pairs and bounds, where each stop that has a bound has an eccentricity
search_unskipped : (cs : List Check) (X Y : Type 0) (Pair : ℕ → ℕ → ℕ → Type 0) (Bound : ℕ → ℕ → Type 0)
    → (Clear cs → (v b : ℕ) → Bound v b → (e : Option ℕ) × Backward Pair v e)
    → (r : Answer) → FulfilsSearch cs Pair Bound X Y r → ((number place : ℕ) → r ≢ answer.Refused number place)
    → (order : List ℕ) → Targets Bound order → AllVisited Pair order 0 (value_of r)
search_unskipped cs X Y Pair Bound ecc (answer.Value d u v k) h answered order targets =
    let all = all_visited order (λ w m. let b = (targets.bounded w).0 m in ecc h.0 w b.0 b.1) 0 in
    subst (AllVisited Pair order 0) (shown_unskipped targets all.1 h.1) all.1
search_unskipped cs X Y Pair Bound ecc (answer.Nothing k) h answered order targets =
    let all = all_visited order (λ w m. let b = (targets.bounded w).0 m in ecc h.0 w b.0 b.1) 0 in
    subst (AllVisited Pair order 0) (none_unskipped targets all.1 h.1) all.1
search_unskipped cs X Y Pair Bound ecc (answer.Refused k p) h answered order targets = absurd (answered k p refl)

module _ (q : Ask) where
  pub diameter_unskipped : (scratch : List ℕ) (r : Answer) (scratch' : List ℕ) → DiameterPromise q scratch r scratch' → ((number place : ℕ) → r ≢ answer.Refused number place)
      → (order : List ℕ) → Targets (Bounds q) order → AllVisited (Pairs q) order 0 (value_of r)
  unfolding DiameterPromise
  diameter_unskipped scratch r scratch' = search_unskipped (table q t) _ _ (Pairs q) (Bounds q) ecc r
    where
      t : Takes
      t = takes [] [] (room scratch scratch_places ∷ [])

      ecc : Clear (table q t) → (v b : ℕ) → Bounds q v b → (e : Option ℕ) × Backward (Pairs q) v e
      ecc clear v b h =
          let a : Accepted q t = accepted q t clear in
          let pairs = pairs_told (asker's_rows q) q.A q.W q.n a.good a.in_order a.in_day in
          let bounds = bounds_told (asker's_rows q) q.A q.W q.n a.good a.in_order a.in_day in
          (ecc_to (pair_of (asker's_rows q) q.A q.W q.n) q.n v, backward_right q.n _ pairs v (bounds.told v b h).0)

  pub pivot_diameter_unskipped : (pivots scratch : List ℕ) (r : Answer) (scratch' : List ℕ) → PivotDiameterPromise q pivots scratch r scratch'
      → ((number place : ℕ) → r ≢ answer.Refused number place)
      → (order : List ℕ) → Targets (PivotBounds q pivots) order → AllVisited (JoinedPairs q pivots) order 0 (value_of r)
  unfolding PivotDiameterPromise
  pivot_diameter_unskipped pivots scratch r scratch' = search_unskipped (table q t) _ _ (JoinedPairs q pivots) (PivotBounds q pivots) ecc r
    where
      t : Takes
      t = takes [] pivots (room scratch scratch_places ∷ [])

      ecc : Clear (table q t) → (v b : ℕ) → PivotBounds q pivots v b → (e : Option ℕ) × Backward (JoinedPairs q pivots) v e
      ecc clear v b h =
          let a : Accepted q t = accepted q t clear in
          let pairs = joined_pairs_told (asker's_rows q) q.A q.W q.n a.good a.in_order a.in_day (pivots_of pivots) a.sit in
          let bounds = pivot_bounds_told (asker's_rows q) q.A q.W q.n a.good a.in_order a.in_day (pivots_of pivots) a.sit in
          (ecc_to (joined_pair_of (asker's_rows q) q.A q.W q.n (pivots_of pivots)) q.n v, backward_right q.n _ pairs v (bounds.told v b h).0)
