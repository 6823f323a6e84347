-- Each promise leaves one possible answer, and one possible content of each lent list.
use Rattle.std.specs.Prelude.{ℕ, ◌*◌, ◌≡◌, refl, List, [], ◌∷◌, Option, Some, None, Result, Ok, Err}
use Rattle.std.proofs.Common.{ap, sym, ◌∙◌}
use Rattle.clock.specs.declared.Length.{Length}
use Rattle.rules.specs.Words.{GreatestIfAny}
use Rattle.rules.specs.Day.{Ask}
use Rattle.rules.specs.Lent.{scratch_places}
use Rattle.rules.specs.Table.{Check, office_table, Clear, Refuses, table}
use Rattle.rules.proofs.Laws.Single.{greatest_single, stands_single, fills_single, wiped_single, stretch_single, shown_single, none_single, shown_or_none, clear_or_refused, OnePlace, refusal_single, table_one_place, office_one_place}
use Rattle.day.specs.Refusals.{number_of, place_of}
use Rattle.day.specs.declared.refusal.Refusal.{Refusal}
use Rattle.day.specs.Laws.Single.{refusal_same}
use Rattle.figures.specs.declared.answers.Answer.{Answer}
use Rattle.figures.specs.declared.answers.Answer.TheVariants as answer
use Rattle.figures.specs.Promises.{takes, room, Filled, Eccentricity, Office, seconds, Fulfils, FulfilsFilling, FulfilsEccentricity, FulfilsSearch, DistancesFromPromise, DistancesToPromise, TablePromise, ForwardEccentricityPromise, BackwardEccentricityPromise, DiameterPromise, PivotDiameterPromise, OfficePromise}

length_same : (x y : Length) → x.0 ≡ y.0 → x ≡ y
length_same x y e = ap (λ (s : ℕ). record { 0 = s }) e

eccentricity_same : (P : ℕ → Type 0) (d e : Option Length) → GreatestIfAny P (seconds d) → GreatestIfAny P (seconds e) → d ≡ e
eccentricity_same P (Some x) (Some y) h g = ap Some (length_same x y (greatest_single h g))
eccentricity_same P (Some x) None h g = absurd (g x.0 h.holds)
eccentricity_same P None (Some y) h g = absurd (h y.0 g.holds)
eccentricity_same P None None h g = refl

-- Over any checks with one place each: the answers are equal, and so is whatever follows from two answers (`answered`) and from
-- two lists left alone (`kept`).
module _ (cs : List Check) (one : OnePlace cs) {Y Y' E : Type 0} (kept : Y → Y' → E) where
  not_both : {P : Type 0} (k p : ℕ) → Clear cs → Refuses cs k p → P
  not_both k p h g = absurd (clear_or_refused cs k p h g)

  pub fulfils_unique : {T : Type 0} {A A' : T → Type 0} → ((x y : T) → A x → A' y → (x ≡ y) × E)
      → (r r' : Result T Refusal) → Fulfils cs A Y r → Fulfils cs A' Y' r' → (r ≡ r') × E
  fulfils_unique answered (Ok x) (Ok y) h g = let e = answered x y h.1 g.1 in (ap Ok e.0, e.1)
  fulfils_unique answered (Ok x) (Err r) h g = not_both (number_of r) (place_of r) h.0 g.0
  fulfils_unique answered (Err r) (Ok y) h g = not_both (number_of r) (place_of r) g.0 h.0
  fulfils_unique answered (Err r) (Err s) h g =
      let e = refusal_single cs one (number_of r) (place_of r) (number_of s) (place_of s) h.0 g.0 in (ap Err (refusal_same r s e.0 e.1), kept h.1 g.1)

-- and with lists that are written (`written`)
module _ (cs : List Check) (one : OnePlace cs) {X Y X' Y' E : Type 0} (written : X → X' → E) (kept : Y → Y' → E) where
  pub filling_unique : (r r' : Filled) → FulfilsFilling cs X Y r → FulfilsFilling cs X' Y' r' → (r ≡ r') × E
  filling_unique = fulfils_unique cs one kept (λ x y h g. (refl, written h g))

  pub eccentricity_unique : (P : ℕ → Type 0) (r r' : Eccentricity)
      → FulfilsEccentricity cs (GreatestIfAny P) X Y r → FulfilsEccentricity cs (GreatestIfAny P) X' Y' r' → (r ≡ r') × E
  eccentricity_unique P = fulfils_unique cs one kept (λ d e h g. (eccentricity_same P d e h.0 g.0, written h.1 g.1))

  same_refusal : (k p k' p' : ℕ) → Refuses cs k p → Refuses cs k' p' → answer.Refused k p ≡ answer.Refused k' p'
  same_refusal k p k' p' h g = let e = refusal_single cs one k p k' p' h g in cc (e.0, e.1)

  pub search_unique : (Pair : ℕ → ℕ → ℕ → Type 0) (Bound : ℕ → ℕ → Type 0) → ((v b c : ℕ) → Bound v b → Bound v c → b ≡ c)
      → (r r' : Answer) → FulfilsSearch cs Pair Bound X Y r → FulfilsSearch cs Pair Bound X' Y' r' → (r ≡ r') × E
  search_unique Pair Bound b (answer.Value d u v k) (answer.Value d' u' v' k') h g =
      let e = shown_single b h.1 g.1 in (cc (length_same d d' e.0, e.1, e.2, e.3), written h.2 g.2)
  search_unique Pair Bound b (answer.Value d u v k) (answer.Nothing k') h g = absurd (shown_or_none b h.1 g.1)
  search_unique Pair Bound b (answer.Value d u v i) (answer.Refused k p) h g = not_both cs one kept k p h.0 g.0
  search_unique Pair Bound b (answer.Nothing k) (answer.Value d u v k') h g = absurd (shown_or_none b g.1 h.1)
  search_unique Pair Bound b (answer.Nothing k) (answer.Nothing k') h g = (ap answer.Nothing (none_single b h.1 g.1), written h.2 g.2)
  search_unique Pair Bound b (answer.Nothing i) (answer.Refused k p) h g = not_both cs one kept k p h.0 g.0
  search_unique Pair Bound b (answer.Refused k p) (answer.Value d u v i) h g = not_both cs one kept k p g.0 h.0
  search_unique Pair Bound b (answer.Refused k p) (answer.Nothing i) h g = not_both cs one kept k p g.0 h.0
  search_unique Pair Bound b (answer.Refused k p) (answer.Refused k' p') h g = (same_refusal k p k' p' h.0 g.0, kept h.1 g.1)

-- two lists that are one old list are equal
as_before : {o o' old : List ℕ} → o ≡ old → o' ≡ old → o ≡ o'
as_before e f = e ∙ sym f

module _ (q : Ask) where
  pub distances_from_unique : (source : ℕ) (out : List ℕ) (r r' : Filled) (o o' : List ℕ)
      → DistancesFromPromise q source out r o → DistancesFromPromise q source out r' o' → (r ≡ r') × (o ≡ o')
  unfolding DistancesFromPromise
  distances_from_unique source out r r' o o' = filling_unique (table q (takes (source ∷ []) [] (room out q.n ∷ []))) (table_one_place q (takes (source ∷ []) [] (room out q.n ∷ []))) (fills_single (λ v x y l. stands_single)) as_before r r'

  pub table_unique : (out : List ℕ) (r r' : Filled) (o o' : List ℕ) → TablePromise q out r o → TablePromise q out r' o' → (r ≡ r') × (o ≡ o')
  unfolding TablePromise
  table_unique out r r' o o' = filling_unique (table q (takes [] [] (room out (q.n * q.n) ∷ []))) (table_one_place q (takes [] [] (room out (q.n * q.n) ∷ []))) (fills_single (stretch_single q)) as_before r r'

  pub forward_unique : (source : ℕ) (r r' : Eccentricity) → ForwardEccentricityPromise q source r → ForwardEccentricityPromise q source r' → r ≡ r'
  unfolding ForwardEccentricityPromise
  forward_unique source r r' h g = (eccentricity_unique (table q (takes (source ∷ []) [] [])) (table_one_place q (takes (source ∷ []) [] [])) (λ x y. x) (λ x y. x) _ r r' h g).0

  pub distances_to_unique : (target : ℕ) (out scratch : List ℕ) (r r' : Filled) (o o' s s' : List ℕ)
      → DistancesToPromise q target out scratch r o s → DistancesToPromise q target out scratch r' o' s' → (r ≡ r') × ((o ≡ o') × (s ≡ s'))
  unfolding DistancesToPromise
  distances_to_unique target out scratch r r' o o' s s' =
      filling_unique (table q (takes (target ∷ []) [] (room out q.n ∷ room scratch scratch_places ∷ []))) (table_one_place q (takes (target ∷ []) [] (room out q.n ∷ room scratch scratch_places ∷ [])))
      (λ h g. (fills_single (λ v x y l. stands_single) h.0 g.0, wiped_single h.1 g.1))
      (λ h g. (as_before h.0 g.0, as_before h.1 g.1)) r r'

  pub backward_unique : (target : ℕ) (scratch : List ℕ) (r r' : Eccentricity) (s s' : List ℕ)
      → BackwardEccentricityPromise q target scratch r s → BackwardEccentricityPromise q target scratch r' s' → (r ≡ r') × (s ≡ s')
  unfolding BackwardEccentricityPromise
  backward_unique target scratch r r' s s' = eccentricity_unique (table q (takes (target ∷ []) [] (room scratch scratch_places ∷ []))) (table_one_place q (takes (target ∷ []) [] (room scratch scratch_places ∷ []))) wiped_single as_before _ r r'

  pub diameter_unique : (scratch : List ℕ) (r r' : Answer) (s s' : List ℕ) → DiameterPromise q scratch r s → DiameterPromise q scratch r' s' → (r ≡ r') × (s ≡ s')
  unfolding DiameterPromise
  diameter_unique scratch r r' s s' = search_unique (table q (takes [] [] (room scratch scratch_places ∷ []))) (table_one_place q (takes [] [] (room scratch scratch_places ∷ []))) wiped_single as_before _ _ (λ v b c. greatest_single) r r'

  pub pivot_diameter_unique : (pivots scratch : List ℕ) (r r' : Answer) (s s' : List ℕ)
      → PivotDiameterPromise q pivots scratch r s → PivotDiameterPromise q pivots scratch r' s' → (r ≡ r') × (s ≡ s')
  unfolding PivotDiameterPromise
  pivot_diameter_unique pivots scratch r r' s s' = search_unique (table q (takes [] pivots (room scratch scratch_places ∷ []))) (table_one_place q (takes [] pivots (room scratch scratch_places ∷ []))) wiped_single as_before _ _ (λ v b c. greatest_single) r r'

pub office_unique : (list : List ℕ) (n : ℕ) (r r' : Office) → OfficePromise list n r → OfficePromise list n r' → r ≡ r'
unfolding OfficePromise
office_unique list n r r' h g = (fulfils_unique (office_table list n) (office_one_place list n) (λ x y. x) (λ k k' e f. (e ∙ sym f, tt)) r r' h g).0
