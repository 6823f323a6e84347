-- A foreign row changes nothing: two fit lists with the same rows of the asker have the same outcomes.
use Rattle.std.specs.Prelude.{ℕ, ◌*◌, ◌≡◌, ◌↔◌, Result, Ok, Err}
use Rattle.std.proofs.Common.{subst}
use mathlib.Core.List.{List, [], ◌∷◌}
use Rattle.std.proofs.Math.Option.{Option}
use Rattle.rules.specs.Day.{Row, rows_of, own, Ask}
use Rattle.rules.specs.Routes.{Earliest}
use Rattle.rules.specs.Eccentricity.{Reached, Forward, Backward}
use Rattle.rules.specs.Diameter.{LatestEntry, Shown, NoneShown}
use Rattle.rules.specs.Pivots.{pivots_of, Joined, LatestUnder}
use Rattle.rules.specs.Table.{Takes, table}
use Rattle.rules.specs.Lent.{Fills, scratch_places, Wiped, Stands}
use Rattle.rules.specs.Struck.{Fit, struck, SameToAsker}
use Rattle.rules.proofs.Laws.Isolated.{clear_carries, refusal_carries, same_back, same_to_struck}
use Rattle.passes.specs.Days.{rows_day}
use Rattle.day.specs.Refusals.{number_of, place_of}
use Rattle.day.specs.declared.refusal.Refusal.{Refusal}
use Rattle.figures.specs.declared.answers.Answer.{Answer}
use Rattle.figures.specs.declared.answers.Answer.TheVariants as answer
use Rattle.figures.specs.Parts.{Stretched}
use Rattle.figures.specs.Promises.{ask, room, takes, Filled, Eccentricity, seconds, Fulfils, FulfilsFilling, FulfilsEccentricity, FulfilsSearch, DistancesFromPromise, DistancesToPromise, TablePromise, ForwardEccentricityPromise, BackwardEccentricityPromise, DiameterPromise, PivotDiameterPromise}
use Rattle.figures.specs.Laws.Unique.{distances_from_unique, distances_to_unique, table_unique, forward_unique, backward_unique, diameter_unique, pivot_diameter_unique}

-- Over any figures of rows (`B`, `X`, `Is`) and any lists left alone (`Y`): an outcome for one list is an
-- outcome for the other.
module _ {asker : ℕ} {list other : List ℕ} (s : SameToAsker asker list other) (n A W : ℕ) where
  abbrev one : Ask
  one = ask list n asker A W

  abbrev two : Ask
  two = ask other n asker A W

  abbrev rows : List ℕ → List Row
  rows l = own asker (rows_of l)

  carries : (X : List Row → Type 0) → X (rows list) → X (rows other)
  carries X = subst X s.same_rows

  fulfils_carries : {T : Type 0} (t : Takes) (B : List Row → T → Type 0) (Y : Type 0) (r : Result T Refusal)
      → Fulfils (table one t) (B (rows list)) Y r → Fulfils (table two t) (B (rows other)) Y r
  fulfils_carries t B Y (Ok x) h = (clear_carries s n A W t h.0, carries (λ rs. B rs x) h.1)
  fulfils_carries t B Y (Err r) h = (refusal_carries s n A W t (number_of r) (place_of r) h.0, h.1)

  filling_carries : (t : Takes) (X : List Row → Type 0) (Y : Type 0) (r : Filled)
      → FulfilsFilling (table one t) (X (rows list)) Y r → FulfilsFilling (table two t) (X (rows other)) Y r
  filling_carries t X = fulfils_carries t (λ rs x. X rs)

  eccentricity_carries : (t : Takes) (Is : List Row → Option ℕ → Type 0) (X Y : Type 0) (r : Eccentricity)
      → FulfilsEccentricity (table one t) (Is (rows list)) X Y r → FulfilsEccentricity (table two t) (Is (rows other)) X Y r
  eccentricity_carries t Is X = fulfils_carries t (λ rs d. Is rs (seconds d) × X)

  search_carries : (t : Takes) (Pair : List Row → ℕ → ℕ → ℕ → Type 0) (Bound : List Row → ℕ → ℕ → Type 0) (X Y : Type 0) (r : Answer)
      → FulfilsSearch (table one t) (Pair (rows list)) (Bound (rows list)) X Y r → FulfilsSearch (table two t) (Pair (rows other)) (Bound (rows other)) X Y r
  search_carries t Pair Bound X Y (answer.Value d u v k) h = (clear_carries s n A W t h.0, carries (λ rs. Shown (Pair rs) (Bound rs) d.0 u v k) h.1, h.2)
  search_carries t Pair Bound X Y (answer.Nothing k) h = (clear_carries s n A W t h.0, carries (λ rs. NoneShown (Pair rs) (Bound rs) k) h.1, h.2)
  search_carries t Pair Bound X Y (answer.Refused k p) h = (refusal_carries s n A W t k p h.0, h.1)

  pub distances_from_carries : (source : ℕ) (out : List ℕ) (r : Filled) (o : List ℕ) → DistancesFromPromise one source out r o → DistancesFromPromise two source out r o
  unfolding DistancesFromPromise
  distances_from_carries source out r o = filling_carries (takes (source ∷ []) [] (room out n ∷ [])) (λ rs. Fills n (Stands (rows_day rs) A W source) out o) (o ≡ out) r

  pub table_carries : (out : List ℕ) (r : Filled) (o : List ℕ) → TablePromise one out r o → TablePromise two out r o
  unfolding TablePromise
  table_carries out r o = filling_carries (takes [] [] (room out (n * n) ∷ [])) (λ rs. Fills (n * n) (Stretched rs n A W) out o) (o ≡ out) r

  pub forward_carries : (source : ℕ) (r : Eccentricity) → ForwardEccentricityPromise one source r → ForwardEccentricityPromise two source r
  unfolding ForwardEccentricityPromise
  forward_carries source r = eccentricity_carries (takes (source ∷ []) [] []) (λ rs. Forward (Reached n (Earliest (rows_day rs) A W)) source) (Unit {0}) (Unit {0}) r

  pub distances_to_carries : (target : ℕ) (out scratch : List ℕ) (r : Filled) (o x : List ℕ) → DistancesToPromise one target out scratch r o x → DistancesToPromise two target out scratch r o x
  unfolding DistancesToPromise
  distances_to_carries target out scratch r o x =
      filling_carries (takes (target ∷ []) [] (room out n ∷ room scratch scratch_places ∷ [])) (λ rs. Fills n (λ u. Stands (rows_day rs) A W u target) out o × Wiped scratch x)
      ((o ≡ out) × (x ≡ scratch)) r

  pub backward_carries : (target : ℕ) (scratch : List ℕ) (r : Eccentricity) (x : List ℕ) → BackwardEccentricityPromise one target scratch r x → BackwardEccentricityPromise two target scratch r x
  unfolding BackwardEccentricityPromise
  backward_carries target scratch r x =
      eccentricity_carries (takes (target ∷ []) [] (room scratch scratch_places ∷ [])) (λ rs. Backward (Reached n (Earliest (rows_day rs) A W)) target) (Wiped scratch x) (x ≡ scratch) r

  pub diameter_carries : (scratch : List ℕ) (r : Answer) (x : List ℕ) → DiameterPromise one scratch r x → DiameterPromise two scratch r x
  unfolding DiameterPromise
  diameter_carries scratch r x =
      search_carries (takes [] [] (room scratch scratch_places ∷ [])) (λ rs. Reached n (Earliest (rows_day rs) A W)) (λ rs. LatestEntry (rows_day rs) A W) (Wiped scratch x) (x ≡ scratch) r

  pub pivot_diameter_carries : (pivots scratch : List ℕ) (r : Answer) (x : List ℕ) → PivotDiameterPromise one pivots scratch r x → PivotDiameterPromise two pivots scratch r x
  unfolding PivotDiameterPromise
  pivot_diameter_carries pivots scratch r x =
      search_carries (takes [] pivots (room scratch scratch_places ∷ []))
      (λ rs u v d. Reached n (Earliest (rows_day rs) A W) u v d × Joined (rows_day rs) A W (pivots_of pivots) u v)
      (λ rs. LatestUnder (rows_day rs) A W (pivots_of pivots)) (Wiped scratch x) (x ≡ scratch) r

  -- equal answers, equal lent lists

  pub distances_from_isolated : (source : ℕ) (out : List ℕ) (r r' : Filled) (o o' : List ℕ)
      → DistancesFromPromise one source out r o → DistancesFromPromise two source out r' o' → (r ≡ r') × (o ≡ o')
  distances_from_isolated source out r r' o o' h g = distances_from_unique two source out r r' o o' (distances_from_carries source out r o h) g

  pub table_isolated : (out : List ℕ) (r r' : Filled) (o o' : List ℕ) → TablePromise one out r o → TablePromise two out r' o' → (r ≡ r') × (o ≡ o')
  table_isolated out r r' o o' h g = table_unique two out r r' o o' (table_carries out r o h) g

  pub forward_isolated : (source : ℕ) (r r' : Eccentricity) → ForwardEccentricityPromise one source r → ForwardEccentricityPromise two source r' → r ≡ r'
  forward_isolated source r r' h g = forward_unique two source r r' (forward_carries source r h) g

  pub distances_to_isolated : (target : ℕ) (out scratch : List ℕ) (r r' : Filled) (o o' x x' : List ℕ)
      → DistancesToPromise one target out scratch r o x → DistancesToPromise two target out scratch r' o' x' → (r ≡ r') × ((o ≡ o') × (x ≡ x'))
  distances_to_isolated target out scratch r r' o o' x x' h g = distances_to_unique two target out scratch r r' o o' x x' (distances_to_carries target out scratch r o x h) g

  pub backward_isolated : (target : ℕ) (scratch : List ℕ) (r r' : Eccentricity) (x x' : List ℕ)
      → BackwardEccentricityPromise one target scratch r x → BackwardEccentricityPromise two target scratch r' x' → (r ≡ r') × (x ≡ x')
  backward_isolated target scratch r r' x x' h g = backward_unique two target scratch r r' x x' (backward_carries target scratch r x h) g

  pub diameter_isolated : (scratch : List ℕ) (r r' : Answer) (x x' : List ℕ) → DiameterPromise one scratch r x → DiameterPromise two scratch r' x' → (r ≡ r') × (x ≡ x')
  diameter_isolated scratch r r' x x' h g = diameter_unique two scratch r r' x x' (diameter_carries scratch r x h) g

  pub pivot_diameter_isolated : (pivots scratch : List ℕ) (r r' : Answer) (x x' : List ℕ)
      → PivotDiameterPromise one pivots scratch r x → PivotDiameterPromise two pivots scratch r' x' → (r ≡ r') × (x ≡ x')
  pivot_diameter_isolated pivots scratch r r' x x' h g = pivot_diameter_unique two pivots scratch r r' x x' (pivot_diameter_carries pivots scratch r x h) g

-- and an outcome for a fit list is exactly an outcome for the struck-out list
module _ (asker : ℕ) (list : List ℕ) (f : Fit list) (n A W : ℕ) where
  there : SameToAsker asker list (struck asker list)
  there = same_to_struck asker list f

  back : SameToAsker asker (struck asker list) list
  back = same_back there

  abbrev whole : Ask
  whole = ask list n asker A W

  abbrev bare : Ask
  bare = ask (struck asker list) n asker A W

  pub distances_from_struck : (source : ℕ) (out : List ℕ) (r : Filled) (o : List ℕ) → DistancesFromPromise whole source out r o ↔ DistancesFromPromise bare source out r o
  distances_from_struck source out r o = (distances_from_carries there n A W source out r o, distances_from_carries back n A W source out r o)

  pub table_struck : (out : List ℕ) (r : Filled) (o : List ℕ) → TablePromise whole out r o ↔ TablePromise bare out r o
  table_struck out r o = (table_carries there n A W out r o, table_carries back n A W out r o)

  pub forward_struck : (source : ℕ) (r : Eccentricity) → ForwardEccentricityPromise whole source r ↔ ForwardEccentricityPromise bare source r
  forward_struck source r = (forward_carries there n A W source r, forward_carries back n A W source r)

  pub distances_to_struck : (target : ℕ) (out scratch : List ℕ) (r : Filled) (o x : List ℕ) → DistancesToPromise whole target out scratch r o x ↔ DistancesToPromise bare target out scratch r o x
  distances_to_struck target out scratch r o x = (distances_to_carries there n A W target out scratch r o x, distances_to_carries back n A W target out scratch r o x)

  pub backward_struck : (target : ℕ) (scratch : List ℕ) (r : Eccentricity) (x : List ℕ) → BackwardEccentricityPromise whole target scratch r x ↔ BackwardEccentricityPromise bare target scratch r x
  backward_struck target scratch r x = (backward_carries there n A W target scratch r x, backward_carries back n A W target scratch r x)

  pub diameter_struck : (scratch : List ℕ) (r : Answer) (x : List ℕ) → DiameterPromise whole scratch r x ↔ DiameterPromise bare scratch r x
  diameter_struck scratch r x = (diameter_carries there n A W scratch r x, diameter_carries back n A W scratch r x)

  pub pivot_diameter_struck : (pivots scratch : List ℕ) (r : Answer) (x : List ℕ) → PivotDiameterPromise whole pivots scratch r x ↔ PivotDiameterPromise bare pivots scratch r x
  pivot_diameter_struck pivots scratch r x = (pivot_diameter_carries there n A W pivots scratch r x, pivot_diameter_carries back n A W pivots scratch r x)
