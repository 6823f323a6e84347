-- Every input has a reply; with Unique, exactly one.
use Rattle.std.specs.Prelude.{ℕ, List}
use Rattle.rules.specs.Day.{Ask}
use Rattle.figures.specs.Promises.{DistancesFromPromise, DistancesToPromise, TablePromise, ForwardEccentricityPromise, BackwardEccentricityPromise, DiameterPromise, PivotDiameterPromise, OfficePromise}
use Rattle.figures.specs.Laws.Exists as figures
use Rattle.figures_c.specs.Reply.{filled_reply, eccentricity_reply, answer_reply, office_reply, Replied}
use Rattle.figures_c.specs.Laws.Replied.{replied}

module _ (q : Ask) where
  pub distances_from_exists : (source : ℕ) (out : List ℕ) → (x : List ℕ) × (o : List ℕ) × Replied filled_reply (λ r. DistancesFromPromise q source out r o) x
  distances_from_exists source out = let e = figures.distances_from_exists q source out in (filled_reply e.0, e.1, replied filled_reply _ e.0 e.2)

  pub table_exists : (out : List ℕ) → (x : List ℕ) × (o : List ℕ) × Replied filled_reply (λ r. TablePromise q out r o) x
  table_exists out = let e = figures.table_exists q out in (filled_reply e.0, e.1, replied filled_reply _ e.0 e.2)

  pub forward_exists : (stop : ℕ) → (x : List ℕ) × Replied eccentricity_reply (ForwardEccentricityPromise q stop) x
  forward_exists stop = let e = figures.forward_exists q stop in (eccentricity_reply e.0, replied eccentricity_reply _ e.0 e.1)

  pub distances_to_exists : (target : ℕ) (out scratch : List ℕ)
      → (x : List ℕ) × (o : List ℕ) × (s : List ℕ) × Replied filled_reply (λ r. DistancesToPromise q target out scratch r o s) x
  distances_to_exists target out scratch = let e = figures.distances_to_exists q target out scratch in (filled_reply e.0, e.1, e.2, replied filled_reply _ e.0 e.3)

  pub backward_exists : (stop : ℕ) (scratch : List ℕ) → (x : List ℕ) × (s : List ℕ) × Replied eccentricity_reply (λ r. BackwardEccentricityPromise q stop scratch r s) x
  backward_exists stop scratch = let e = figures.backward_exists q stop scratch in (eccentricity_reply e.0, e.1, replied eccentricity_reply _ e.0 e.2)

  pub diameter_exists : (scratch : List ℕ) → (x : List ℕ) × (s : List ℕ) × Replied answer_reply (λ r. DiameterPromise q scratch r s) x
  diameter_exists scratch = let e = figures.diameter_exists q scratch in (answer_reply e.0, e.1, replied answer_reply _ e.0 e.2)

  pub pivot_diameter_exists : (pivots scratch : List ℕ) → (x : List ℕ) × (s : List ℕ) × Replied answer_reply (λ r. PivotDiameterPromise q pivots scratch r s) x
  pivot_diameter_exists pivots scratch = let e = figures.pivot_diameter_exists q pivots scratch in (answer_reply e.0, e.1, replied answer_reply _ e.0 e.2)

pub office_exists : (list : List ℕ) (n : ℕ) → (x : List ℕ) × Replied office_reply (OfficePromise list n) x
office_exists list n = let e = figures.office_exists list n in (office_reply e.0, replied office_reply _ e.0 e.1)
