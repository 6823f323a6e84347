-- An answer that is no refusal is none exactly if there is nothing to tell: no route between different stops, no pair joined.
use Rattle.std.specs.Prelude.{ℕ, ◌≡◌, refl, ◌≢◌, ◌↔◌, List, [], ◌∷◌, Some, None, Ok, Err}
use Rattle.std.proofs.Common.{arith}
use Rattle.rules.specs.Words.{GreatestIfAny}
use Rattle.rules.specs.Day.{Ask, asker's_day}
use Rattle.rules.specs.Routes.{Compatible}
use Rattle.rules.specs.Pivots.{pivots_of, Joined}
use Rattle.rules.specs.Lent.{scratch_places, Wiped}
use Rattle.rules.specs.Table.{Check, Clear, table}
use Rattle.rules.specs.Figures.{Pairs, Bounds, JoinedPairs, PivotBounds}
use Rattle.rules.proofs.Laws.Routed.{counted_has_route, uncounted_has_no_route, uncounted_unjoined}
use Rattle.day.specs.Refusals.{number_of, place_of}
use Rattle.figures.specs.declared.answers.Answer.{Answer}
use Rattle.figures.specs.declared.answers.Answer.TheVariants as answer
use Rattle.figures.specs.Promises.{takes, room, Eccentricity, IsRefusal, FulfilsEccentricity, FulfilsSearch, ForwardEccentricityPromise, BackwardEccentricityPromise, DiameterPromise, PivotDiameterPromise}

-- Over any pairs that count, where `There` says that there is something to tell: whatever counts is there, and where nothing
-- counts, nothing is there.
module _ (cs : List Check) (X Y : Type 0) where
  eccentricity_none : (Pair : ℕ → ℕ → Type 0) {There : ℕ → Type 0} → ((v d : ℕ) → Pair v d → There v) → (Clear cs → (v : ℕ) → ((d : ℕ) → Pair v d → ⊥) → There v → ⊥)
      → (r : Eccentricity) → FulfilsEccentricity cs (GreatestIfAny (λ d. (v : ℕ) × Pair v d)) X Y r → ((number place : ℕ) → IsRefusal r number place → ⊥)
      → (r ≡ Ok None) ↔ ((v : ℕ) → There v → ⊥)
  eccentricity_none Pair there nowhere (Ok (Some d)) h answered =
      let p = h.1.0.holds in (λ e. absurd (let z : ◌≡◌ {A = ℕ} 0 1 = cc in omega arith), λ none. absurd (none p.0 (there p.0 d.0 p.1)))
  eccentricity_none Pair there nowhere (Ok None) h answered = (λ e v. nowhere h.0 v (λ d p. h.1.0 d (v, p)), λ none. refl)
  eccentricity_none Pair there nowhere (Err r) h answered = absurd (answered (number_of r) (place_of r) (refl, refl))

  search_none : (Pair : ℕ → ℕ → ℕ → Type 0) (Bound : ℕ → ℕ → Type 0) {There : ℕ → ℕ → Type 0} → ((u v d : ℕ) → Pair u v d → There u v)
      → (Clear cs → (u v : ℕ) → ((d : ℕ) → Pair u v d → ⊥) → There u v → ⊥)
      → (r : Answer) → FulfilsSearch cs Pair Bound X Y r → ((number place : ℕ) → r ≢ answer.Refused number place)
      → ((visits : ℕ) × (r ≡ answer.Nothing visits)) ↔ ((u v : ℕ) → There u v → ⊥)
  search_none Pair Bound there nowhere (answer.Value d u v k) h answered =
      (λ e. absurd (let f = e.1 in let z : ◌≡◌ {A = ℕ} 0 1 = cc in omega arith), λ none. absurd (none u v (there u v d.0 h.1.source.holds)))
  search_none Pair Bound there nowhere (answer.Nothing k) h answered = (λ e u v. nowhere h.0 u v (h.1.nobody u v), λ none. (k, refl))
  search_none Pair Bound there nowhere (answer.Refused k p) h answered = absurd (answered k p refl)

module _ (q : Ask) where
  -- the forward eccentricity is none exactly if no other stop is reached from the source
  pub forward_none : (source : ℕ) (r : Eccentricity) → ForwardEccentricityPromise q source r → ((number place : ℕ) → IsRefusal r number place → ⊥)
      → (r ≡ Ok None) ↔ ((v : ℕ) → (source ≢ v) × Compatible (asker's_day q) q.A q.W source v → ⊥)
  unfolding ForwardEccentricityPromise
  forward_none source =
      eccentricity_none (table q (takes (source ∷ []) [] [])) (Unit {0}) (Unit {0}) (Pairs q source) (λ v d p. (p.differ, counted_has_route q p))
      (λ clear v none r. uncounted_has_no_route q (takes (source ∷ []) [] []) clear source v r.0 none r.1)

  -- the backward eccentricity, exactly if the target is reached from no other stop
  pub backward_none : (target : ℕ) (scratch : List ℕ) (r : Eccentricity) (scratch' : List ℕ) → BackwardEccentricityPromise q target scratch r scratch'
      → ((number place : ℕ) → IsRefusal r number place → ⊥) → (r ≡ Ok None) ↔ ((u : ℕ) → (u ≢ target) × Compatible (asker's_day q) q.A q.W u target → ⊥)
  unfolding BackwardEccentricityPromise
  backward_none target scratch r scratch' =
      eccentricity_none (table q (takes (target ∷ []) [] (room scratch scratch_places ∷ []))) (Wiped scratch scratch') (scratch' ≡ scratch) (λ u. Pairs q u target) (λ u d p. (p.differ, counted_has_route q p))
      (λ clear u none r. uncounted_has_no_route q (takes (target ∷ []) [] (room scratch scratch_places ∷ [])) clear u target r.0 none r.1) r

  -- the diameter, exactly if no stop is reached from another
  pub diameter_none : (scratch : List ℕ) (r : Answer) (scratch' : List ℕ) → DiameterPromise q scratch r scratch' → ((number place : ℕ) → r ≢ answer.Refused number place)
      → ((visits : ℕ) × (r ≡ answer.Nothing visits)) ↔ ((u v : ℕ) → (u ≢ v) × Compatible (asker's_day q) q.A q.W u v → ⊥)
  unfolding DiameterPromise
  diameter_none scratch r scratch' =
      search_none (table q (takes [] [] (room scratch scratch_places ∷ []))) (Wiped scratch scratch') (scratch' ≡ scratch) (Pairs q) (Bounds q) (λ u v d p. (p.differ, counted_has_route q p)) (λ clear u v none r. uncounted_has_no_route q (takes [] [] (room scratch scratch_places ∷ [])) clear u v r.0 none r.1) r

  -- the pivot-diameter, exactly if no pair is joined
  pub pivot_diameter_none : (pivots scratch : List ℕ) (r : Answer) (scratch' : List ℕ) → PivotDiameterPromise q pivots scratch r scratch'
      → ((number place : ℕ) → r ≢ answer.Refused number place)
      → ((visits : ℕ) × (r ≡ answer.Nothing visits)) ↔ ((u v : ℕ) → Joined (asker's_day q) q.A q.W (pivots_of pivots) u v → ⊥)
  unfolding PivotDiameterPromise
  pivot_diameter_none pivots scratch r scratch' =
      search_none (table q (takes [] pivots (room scratch scratch_places ∷ []))) (Wiped scratch scratch') (scratch' ≡ scratch) (JoinedPairs q pivots) (PivotBounds q pivots) (λ u v d p. p.1)
      (λ clear. uncounted_unjoined q (takes [] pivots (room scratch scratch_places ∷ [])) clear) r
