-- An outcome is a refusal exactly where the checks refuse, with their number and place; where it is no refusal, the lent lists
-- are written.
use Rattle.std.specs.Prelude.{ℕ, ◌≡◌, refl, ◌≢◌, ◌↔◌, List, length, Result, Ok, Err}
use Rattle.std.proofs.Common.{ap, subst, ◌∙◌}
use Rattle.std.proofs.Math.Option.{Option}
use Rattle.rules.specs.Day.{rows_of}
use Rattle.rules.specs.Table.{Check, office_table, Clear, Refuses}
use Rattle.rules.proofs.Laws.Single.{clear_or_refused, OnePlace, refusal_single, office_one_place}
use Rattle.day.specs.Refusals.{number_of, place_of}
use Rattle.day.specs.declared.refusal.Refusal.{Refusal}
use Rattle.figures.specs.declared.answers.Answer.{Answer}
use Rattle.figures.specs.declared.answers.Answer.TheVariants as answer
use Rattle.figures.specs.Promises.{Filled, Eccentricity, Office, IsRefusal, seconds, Fulfils, FulfilsFilling, FulfilsEccentricity, FulfilsSearch, OfficePromise}

module _ (cs : List Check) (one : OnePlace cs) where
  clear_refuses : {P : Type 0} (k p : ℕ) → Clear cs → Refuses cs k p → P
  clear_refuses k p h g = absurd (clear_or_refused cs k p h g)

  module _ (Y : Type 0) where
    pub fulfils_refused : {T : Type 0} (A : T → Type 0) (r : Result T Refusal) → Fulfils cs A Y r → (number place : ℕ) → IsRefusal r number place ↔ Refuses cs number place
    fulfils_refused A (Ok x) h k p = (λ e. absurd e, clear_refuses k p h.0)
    fulfils_refused A (Err r) h k p = (λ e. subst (λ (i : ℕ). Refuses cs i p) e.0 (subst (Refuses cs (number_of r)) e.1 h.0), refusal_single cs one (number_of r) (place_of r) k p h.0)

  module _ (X Y : Type 0) where
    pub filled_refused : (r : Filled) → FulfilsFilling cs X Y r → (number place : ℕ) → IsRefusal r number place ↔ Refuses cs number place
    filled_refused = fulfils_refused Y (λ x. X)

    pub eccentricity_refused : (Is : Option ℕ → Type 0) (r : Eccentricity) → FulfilsEccentricity cs Is X Y r → (number place : ℕ) → IsRefusal r number place ↔ Refuses cs number place
    eccentricity_refused Is = fulfils_refused Y (λ d. Is (seconds d) × X)

    pub search_refused : (Pair : ℕ → ℕ → ℕ → Type 0) (Bound : ℕ → ℕ → Type 0) (r : Answer) → FulfilsSearch cs Pair Bound X Y r
        → (number place : ℕ) → (r ≡ answer.Refused number place) ↔ Refuses cs number place
    search_refused Pair Bound r h k p = (λ e. (subst (FulfilsSearch cs Pair Bound X Y) e h).0, back r h)
      where
        back : (r : Answer) → FulfilsSearch cs Pair Bound X Y r → Refuses cs k p → r ≡ answer.Refused k p
        back (answer.Value d u v visits) h g = clear_refuses k p h.0 g
        back (answer.Nothing visits) h g = clear_refuses k p h.0 g
        back (answer.Refused k' p') h g = let e = refusal_single cs one k' p' k p h.0 g in cc (e.0, e.1)

pub office_refused : (list : List ℕ) (n : ℕ) (r : Office) → OfficePromise list n r → (number place : ℕ) → IsRefusal r number place ↔ Refuses (office_table list n) number place
unfolding OfficePromise
office_refused list n = fulfils_refused (office_table list n) (office_one_place list n) (Unit {0}) (λ k. k ≡ length (rows_of list))

-- a refusal leaves what it leaves
pub refused_kept : {T Y : Type 0} (cs : List Check) (A : T → Type 0) (r : Result T Refusal) (number place : ℕ) → IsRefusal r number place → Fulfils cs A Y r → Y
refused_kept cs A (Ok x) k p e h = absurd e
refused_kept cs A (Err r) k p e h = h.1

-- a result that is no refusal is an answer
answered_ok : {T : Type 0} (cs : List Check) (A : T → Type 0) (Y : Type 0) (r : Result T Refusal) → Fulfils cs A Y r → ((number place : ℕ) → IsRefusal r number place → ⊥) → (x : T) × (r ≡ Ok x) × A x
answered_ok cs A Y (Ok x) h answered = (x, refl, h.1)
answered_ok cs A Y (Err r) h answered = absurd (answered (number_of r) (place_of r) (refl, refl))

module _ (cs : List Check) (X Y : Type 0) where
  pub filled_written : (r : Filled) → FulfilsFilling cs X Y r → ((number place : ℕ) → IsRefusal r number place → ⊥) → X
  filled_written r h answered = (answered_ok cs (λ x. X) Y r h answered).2

  pub eccentricity_written : (Is : Option ℕ → Type 0) (r : Eccentricity) → FulfilsEccentricity cs Is X Y r → ((number place : ℕ) → IsRefusal r number place → ⊥) → X
  eccentricity_written Is r h answered = (answered_ok cs (λ d. Is (seconds d) × X) Y r h answered).2.1

  pub search_written : (Pair : ℕ → ℕ → ℕ → Type 0) (Bound : ℕ → ℕ → Type 0) (r : Answer) → FulfilsSearch cs Pair Bound X Y r
      → ((number place : ℕ) → r ≢ answer.Refused number place) → X
  search_written Pair Bound (answer.Value d u v visits) h answered = h.2
  search_written Pair Bound (answer.Nothing visits) h answered = h.2
  search_written Pair Bound (answer.Refused k p) h answered = absurd (answered k p refl)

pub office_rows_lem : (list : List ℕ) (n : ℕ) (r : Office) → OfficePromise list n r → ((number place : ℕ) → IsRefusal r number place → ⊥) → r ≡ Ok (length (rows_of list))
unfolding OfficePromise
office_rows_lem list n r h answered = let a = answered_ok (office_table list n) (λ k. k ≡ length (rows_of list)) (Unit {0}) r h answered in a.1 ∙ ap Ok a.2
