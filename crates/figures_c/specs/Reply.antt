-- An answer as the five numbers of a reply: what came of the call (0 refused, 1 a value or done, 2 none), then its numbers, with 0 for what it has not.
use Rattle.std.specs.Prelude.{ℕ, ◌≡◌, List, [], ◌∷◌, Option, Some, None, Result, Ok, Err}
use Rattle.clock.specs.declared.Length.{Length}
use Rattle.day.specs.Refusals.{number_of, place_of}
use Rattle.day.specs.declared.refusal.Refusal.{Refusal}
use Rattle.figures.specs.Promises.{Filled, Eccentricity, Office}
use Rattle.figures.specs.declared.answers.Answer.{Answer}
use Rattle.figures.specs.declared.answers.Answer.TheVariants as answer

abbrev pub refused_reply : (number place : ℕ) → List ℕ
refused_reply number place = 0 ∷ number ∷ place ∷ 0 ∷ 0 ∷ []

-- a list was filled
abbrev pub done_reply : Unit {0} → List ℕ
done_reply x = 1 ∷ 0 ∷ 0 ∷ 0 ∷ 0 ∷ []

abbrev pub length_reply : Option Length → List ℕ
length_reply (Some d) = 1 ∷ d.0 ∷ 0 ∷ 0 ∷ 0 ∷ []
length_reply None = 2 ∷ 0 ∷ 0 ∷ 0 ∷ 0 ∷ []

abbrev pub rows_reply : ℕ → List ℕ
rows_reply k = 1 ∷ k ∷ 0 ∷ 0 ∷ 0 ∷ []

abbrev pub answer_reply : Answer → List ℕ
answer_reply (answer.Value value from to visits) = 1 ∷ value.0 ∷ from ∷ to ∷ visits ∷ []
answer_reply (answer.Nothing visits) = 2 ∷ 0 ∷ 0 ∷ 0 ∷ visits ∷ []
answer_reply (answer.Refused number place) = refused_reply number place

-- what is answered, or a refusal
abbrev pub result_reply : {T : Type 0} → (reply_of : T → List ℕ) → Result T Refusal → List ℕ
result_reply reply_of (Ok x) = reply_of x
result_reply reply_of (Err r) = refused_reply (number_of r) (place_of r)

abbrev pub filled_reply : Filled → List ℕ
filled_reply = result_reply done_reply

abbrev pub eccentricity_reply : Eccentricity → List ℕ
eccentricity_reply = result_reply length_reply

abbrev pub office_reply : Office → List ℕ
office_reply = result_reply rows_reply

-- the reply is that of an answer which meets the call's promise
unfoldable pub Replied : {R : Type 0} → (reply_of : R → List ℕ) → (Promise : R → Type 0) → (reply : List ℕ) → Type 0
Replied {R} reply_of Promise reply = (r : R) × Promise r × (reply ≡ reply_of r)
