-- A reply tells its answer: two answers with one reply are equal.
use Rattle.std.specs.Prelude.{ℕ, ◌≡◌, refl, List, Option, Some, None, Result, Ok, Err}
use Rattle.std.proofs.Common.{ap, sym}
use Rattle.clock.specs.declared.Length.{Length}
use Rattle.day.specs.Refusals.{number_of, place_of}
use Rattle.day.specs.declared.refusal.Refusal.{Refusal}
use Rattle.day.specs.Laws.Single.{refusal_same}
use Rattle.figures.specs.Promises.{Filled, Eccentricity, Office}
use Rattle.figures.specs.declared.answers.Answer.{Answer}
use Rattle.figures.specs.declared.answers.Answer.TheVariants as answer
use Rattle.figures_c.specs.Reply.{refused_reply, done_reply, length_reply, rows_reply, answer_reply, result_reply, filled_reply, eccentricity_reply, office_reply}

-- where no answer has the reply of a refusal, and two with one reply are equal
result_told : {T : Type 0} (reply_of : T → List ℕ) → ((x : T) (k p : ℕ) → reply_of x ≡ refused_reply k p → ⊥) → ((x y : T) → reply_of x ≡ reply_of y → x ≡ y)
    → (r r' : Result T Refusal) → result_reply reply_of r ≡ result_reply reply_of r' → r ≡ r'
result_told reply_of apart same (Ok x) (Ok y) e = ap Ok (same x y e)
result_told reply_of apart same (Ok x) (Err r) e = absurd (apart x (number_of r) (place_of r) e)
result_told reply_of apart same (Err r) (Ok x) e = absurd (apart x (number_of r) (place_of r) (sym e))
result_told reply_of apart same (Err r) (Err s) e = ap Err (refusal_same r s (cc e) (cc e))

pub filled_told : (r r' : Filled) → filled_reply r ≡ filled_reply r' → r ≡ r'
filled_told = result_told done_reply (λ x k p e. cc e) (λ x y e. refl)

length_apart : (d : Option Length) (k p : ℕ) → length_reply d ≡ refused_reply k p → ⊥
length_apart (Some d) k p e = cc e
length_apart None k p e = cc e

length_told : (d d' : Option Length) → length_reply d ≡ length_reply d' → d ≡ d'
length_told (Some d) (Some d') e = let x : d.0 ≡ d'.0 = cc e in ap (λ (s : ℕ). Some (record { 0 = s })) x
length_told (Some d) None e = cc e
length_told None (Some d) e = cc e
length_told None None e = refl

pub eccentricity_told : (r r' : Eccentricity) → eccentricity_reply r ≡ eccentricity_reply r' → r ≡ r'
eccentricity_told = result_told length_reply length_apart length_told

pub answer_told : (r r' : Answer) → answer_reply r ≡ answer_reply r' → r ≡ r'
answer_told (answer.Value d u v k) (answer.Value d' u' v' k') e =
    let x : d.0 ≡ d'.0 = cc e in
    let y : d ≡ d' = ap (λ (s : ℕ). record { 0 = s }) x in cc (y, e)
answer_told (answer.Value d u v i) (answer.Nothing k) e = cc e
answer_told (answer.Value d u v i) (answer.Refused k p) e = cc e
answer_told (answer.Nothing k) (answer.Value d u v i) e = cc e
answer_told (answer.Nothing k) (answer.Nothing k') e = cc e
answer_told (answer.Nothing i) (answer.Refused k p) e = cc e
answer_told (answer.Refused k p) (answer.Value d u v i) e = cc e
answer_told (answer.Refused k p) (answer.Nothing i) e = cc e
answer_told (answer.Refused k p) (answer.Refused k' p') e = cc e

pub office_told : (r r' : Office) → office_reply r ≡ office_reply r' → r ≡ r'
office_told = result_told rows_reply (λ k i p e. cc e) (λ k k' e. cc e)
