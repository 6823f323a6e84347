-- A foreign row changes no reply and no lent list.
use Rattle.std.specs.Prelude.{ℕ, ◌≡◌, ◌↔◌, List}
use Rattle.rules.specs.Day.{Ask}
use Rattle.rules.specs.Struck.{Fit, struck, SameToAsker}
use Rattle.figures.specs.Promises.{ask, DistancesFromPromise, DistancesToPromise, TablePromise, ForwardEccentricityPromise, BackwardEccentricityPromise, DiameterPromise, PivotDiameterPromise}
use Rattle.figures.specs.Laws.Isolated as figures
use Rattle.figures_c.specs.Reply.{filled_reply, eccentricity_reply, answer_reply, Replied}
use Rattle.figures_c.specs.Laws.Replied.{replied_same, replied_carries}

-- two fit lists with the same rows of the asker have equal replies and leave equal lists
module _ {asker : ℕ} {list other : List ℕ} (s : SameToAsker asker list other) (n A W : ℕ) (x x' : List ℕ) where
  abbrev one : Ask
  one = ask list n asker A W

  abbrev two : Ask
  two = ask other n asker A W

  pub distances_from_isolated : (source : ℕ) (out o o' : List ℕ)
      → Replied filled_reply (λ r. DistancesFromPromise one source out r o) x → Replied filled_reply (λ r. DistancesFromPromise two source out r o') x' → (x ≡ x') × (o ≡ o')
  distances_from_isolated source out o o' = replied_same filled_reply _ _ (λ r r'. figures.distances_from_isolated s n A W source out r r' o o') x x'

  pub table_isolated : (out o o' : List ℕ)
      → Replied filled_reply (λ r. TablePromise one out r o) x → Replied filled_reply (λ r. TablePromise two out r o') x' → (x ≡ x') × (o ≡ o')
  table_isolated out o o' = replied_same filled_reply _ _ (λ r r'. figures.table_isolated s n A W out r r' o o') x x'

  pub forward_isolated : (stop : ℕ)
      → Replied eccentricity_reply (ForwardEccentricityPromise one stop) x → Replied eccentricity_reply (ForwardEccentricityPromise two stop) x' → x ≡ x'
  forward_isolated stop h g = (replied_same eccentricity_reply _ _ (λ r r' a b. (figures.forward_isolated s n A W stop r r' a b, tt {0})) x x' h g).0

  pub distances_to_isolated : (target : ℕ) (out scratch o o' y y' : List ℕ)
      → Replied filled_reply (λ r. DistancesToPromise one target out scratch r o y) x → Replied filled_reply (λ r. DistancesToPromise two target out scratch r o' y') x'
      → (x ≡ x') × ((o ≡ o') × (y ≡ y'))
  distances_to_isolated target out scratch o o' y y' = replied_same filled_reply _ _ (λ r r'. figures.distances_to_isolated s n A W target out scratch r r' o o' y y') x x'

  pub backward_isolated : (stop : ℕ) (scratch y y' : List ℕ)
      → Replied eccentricity_reply (λ r. BackwardEccentricityPromise one stop scratch r y) x → Replied eccentricity_reply (λ r. BackwardEccentricityPromise two stop scratch r y') x'
      → (x ≡ x') × (y ≡ y')
  backward_isolated stop scratch y y' = replied_same eccentricity_reply _ _ (λ r r'. figures.backward_isolated s n A W stop scratch r r' y y') x x'

  pub diameter_isolated : (scratch y y' : List ℕ)
      → Replied answer_reply (λ r. DiameterPromise one scratch r y) x → Replied answer_reply (λ r. DiameterPromise two scratch r y') x' → (x ≡ x') × (y ≡ y')
  diameter_isolated scratch y y' = replied_same answer_reply _ _ (λ r r'. figures.diameter_isolated s n A W scratch r r' y y') x x'

  pub pivot_diameter_isolated : (pivots scratch y y' : List ℕ)
      → Replied answer_reply (λ r. PivotDiameterPromise one pivots scratch r y) x → Replied answer_reply (λ r. PivotDiameterPromise two pivots scratch r y') x'
      → (x ≡ x') × (y ≡ y')
  pivot_diameter_isolated pivots scratch y y' = replied_same answer_reply _ _ (λ r r'. figures.pivot_diameter_isolated s n A W pivots scratch r r' y y') x x'

-- and an outcome for a fit list is exactly an outcome for the struck-out list
module _ (asker : ℕ) (list : List ℕ) (f : Fit list) (n A W : ℕ) (x : List ℕ) where
  abbrev whole : Ask
  whole = ask list n asker A W

  abbrev bare : Ask
  bare = ask (struck asker list) n asker A W

  pub distances_from_struck : (source : ℕ) (out o : List ℕ)
      → Replied filled_reply (λ r. DistancesFromPromise whole source out r o) x ↔ Replied filled_reply (λ r. DistancesFromPromise bare source out r o) x
  distances_from_struck source out o = replied_carries filled_reply _ _ (λ r. figures.distances_from_struck asker list f n A W source out r o) x

  pub table_struck : (out o : List ℕ) → Replied filled_reply (λ r. TablePromise whole out r o) x ↔ Replied filled_reply (λ r. TablePromise bare out r o) x
  table_struck out o = replied_carries filled_reply _ _ (λ r. figures.table_struck asker list f n A W out r o) x

  pub forward_struck : (stop : ℕ) → Replied eccentricity_reply (ForwardEccentricityPromise whole stop) x ↔ Replied eccentricity_reply (ForwardEccentricityPromise bare stop) x
  forward_struck stop = replied_carries eccentricity_reply _ _ (figures.forward_struck asker list f n A W stop) x

  pub distances_to_struck : (target : ℕ) (out scratch o s : List ℕ)
      → Replied filled_reply (λ r. DistancesToPromise whole target out scratch r o s) x ↔ Replied filled_reply (λ r. DistancesToPromise bare target out scratch r o s) x
  distances_to_struck target out scratch o s = replied_carries filled_reply _ _ (λ r. figures.distances_to_struck asker list f n A W target out scratch r o s) x

  pub backward_struck : (stop : ℕ) (scratch s : List ℕ)
      → Replied eccentricity_reply (λ r. BackwardEccentricityPromise whole stop scratch r s) x ↔ Replied eccentricity_reply (λ r. BackwardEccentricityPromise bare stop scratch r s) x
  backward_struck stop scratch s = replied_carries eccentricity_reply _ _ (λ r. figures.backward_struck asker list f n A W stop scratch r s) x

  pub diameter_struck : (scratch s : List ℕ) → Replied answer_reply (λ r. DiameterPromise whole scratch r s) x ↔ Replied answer_reply (λ r. DiameterPromise bare scratch r s) x
  diameter_struck scratch s = replied_carries answer_reply _ _ (λ r. figures.diameter_struck asker list f n A W scratch r s) x

  pub pivot_diameter_struck : (pivots scratch s : List ℕ)
      → Replied answer_reply (λ r. PivotDiameterPromise whole pivots scratch r s) x ↔ Replied answer_reply (λ r. PivotDiameterPromise bare pivots scratch r s) x
  pivot_diameter_struck pivots scratch s = replied_carries answer_reply _ _ (λ r. figures.pivot_diameter_struck asker list f n A W pivots scratch r s) x
