-- Each call leaves one possible reply, and one possible content of each lent list.
use Rattle.std.specs.Prelude.{ℕ, ◌≡◌, List}
use Rattle.rules.specs.Day.{Ask}
use Rattle.figures.specs.Promises.{DistancesFromPromise, DistancesToPromise, TablePromise, ForwardEccentricityPromise, BackwardEccentricityPromise, DiameterPromise, PivotDiameterPromise, OfficePromise}
use Rattle.figures.specs.Laws.Unique as figures
use Rattle.figures_c.specs.Reply.{filled_reply, eccentricity_reply, answer_reply, office_reply, Replied}
use Rattle.figures_c.specs.Laws.Replied.{replied_same}

module _ (q : Ask) (x x' : List ℕ) where
  pub distances_from_unique : (source : ℕ) (out o o' : List ℕ)
      → Replied filled_reply (λ r. DistancesFromPromise q source out r o) x → Replied filled_reply (λ r. DistancesFromPromise q source out r o') x' → (x ≡ x') × (o ≡ o')
  distances_from_unique source out o o' = replied_same filled_reply _ _ (λ r r'. figures.distances_from_unique q source out r r' o o') x x'

  pub table_unique : (out o o' : List ℕ)
      → Replied filled_reply (λ r. TablePromise q out r o) x → Replied filled_reply (λ r. TablePromise q out r o') x' → (x ≡ x') × (o ≡ o')
  table_unique out o o' = replied_same filled_reply _ _ (λ r r'. figures.table_unique q out r r' o o') x x'

  pub forward_unique : (stop : ℕ)
      → Replied eccentricity_reply (ForwardEccentricityPromise q stop) x → Replied eccentricity_reply (ForwardEccentricityPromise q stop) x' → x ≡ x'
  forward_unique stop h g = (replied_same eccentricity_reply _ _ (λ r r' a b. (figures.forward_unique q stop r r' a b, tt {0})) x x' h g).0

  pub distances_to_unique : (target : ℕ) (out scratch o o' s s' : List ℕ)
      → Replied filled_reply (λ r. DistancesToPromise q target out scratch r o s) x → Replied filled_reply (λ r. DistancesToPromise q target out scratch r o' s') x'
      → (x ≡ x') × ((o ≡ o') × (s ≡ s'))
  distances_to_unique target out scratch o o' s s' = replied_same filled_reply _ _ (λ r r'. figures.distances_to_unique q target out scratch r r' o o' s s') x x'

  pub backward_unique : (stop : ℕ) (scratch s s' : List ℕ)
      → Replied eccentricity_reply (λ r. BackwardEccentricityPromise q stop scratch r s) x → Replied eccentricity_reply (λ r. BackwardEccentricityPromise q stop scratch r s') x'
      → (x ≡ x') × (s ≡ s')
  backward_unique stop scratch s s' = replied_same eccentricity_reply _ _ (λ r r'. figures.backward_unique q stop scratch r r' s s') x x'

  pub diameter_unique : (scratch s s' : List ℕ)
      → Replied answer_reply (λ r. DiameterPromise q scratch r s) x → Replied answer_reply (λ r. DiameterPromise q scratch r s') x' → (x ≡ x') × (s ≡ s')
  diameter_unique scratch s s' = replied_same answer_reply _ _ (λ r r'. figures.diameter_unique q scratch r r' s s') x x'

  pub pivot_diameter_unique : (pivots scratch s s' : List ℕ)
      → Replied answer_reply (λ r. PivotDiameterPromise q pivots scratch r s) x → Replied answer_reply (λ r. PivotDiameterPromise q pivots scratch r s') x'
      → (x ≡ x') × (s ≡ s')
  pivot_diameter_unique pivots scratch s s' = replied_same answer_reply _ _ (λ r r'. figures.pivot_diameter_unique q pivots scratch r r' s s') x x'

pub office_unique : (list : List ℕ) (n : ℕ) (x x' : List ℕ)
    → Replied office_reply (OfficePromise list n) x → Replied office_reply (OfficePromise list n) x' → x ≡ x'
office_unique list n x x' h g = (replied_same office_reply _ _ (λ r r' a b. (figures.office_unique list n r r' a b, tt {0})) x x' h g).0
