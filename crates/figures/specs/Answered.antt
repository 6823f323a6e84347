-- The answers that a farthest stop, the end of a search and a refusal give; 0 is none.
use Rattle.std.specs.Prelude.{ℕ, cond, List, ◌++◌, eqb, Option, Some, None, Result, Ok, Err, codes}
use Rattle.std.specs.Fmt.{decimal}
use Rattle.clock.specs.declared.Length.{Length}
use Rattle.rules.specs.Day.{Row}
use Rattle.passes.specs.Backward.{distances_to}
use Rattle.search.specs.Farthest.{farthest_in}
use Rattle.search.specs.Pivots.{kept_joined}
use Rattle.search.specs.declared.far.Far.{Far}
use Rattle.search.specs.declared.pivots.PivotNumbers.{PivotNumbers}
use Rattle.search.specs.declared.state.Search.{Search}
use Rattle.day.specs.Refusals.{number_of, place_of}
use Rattle.day.specs.declared.refusal.Refusal.{Refusal}
use Rattle.figures.specs.declared.answers.Answer.{Answer}
use Rattle.figures.specs.declared.answers.Answer.TheVariants as answer

-- the farthest source of v, over legs
abbrev pub far_in : List Row → (n v : ℕ) → Far
far_in ls n v = farthest_in (distances_to v ls n 0) v n

-- the farthest source of v among those that pivots join to it
abbrev pub far_kept : List Row → List PivotNumbers → (n v : ℕ) → Far
far_kept ls pivots n v = farthest_in (kept_joined pivots n v (distances_to v ls n 0)) v n

abbrev pub eccentricity_of : Far → Option Length
eccentricity_of far = cond (eqb far.value 0) None (Some (record { 0 = far.value }))

abbrev pub answer_of : Search → Answer
answer_of st = cond (eqb st.best 0) (answer.Nothing st.visits) (answer.Value (record { 0 = st.best }) st.source st.target st.visits)

abbrev pub refused_by : Refusal → Answer
refused_by r = answer.Refused (number_of r) (place_of r)

abbrev pub ended : Result Search Refusal → Answer
ended (Ok st) = answer_of st
ended (Err r) = refused_by r

-- as the figures program writes it
abbrev pub answer_text : Answer → List ℕ
answer_text (answer.Value value from to visits) = decimal value.0 ++ (codes " " ++ (decimal from ++ (codes " " ++ (decimal to ++ (codes " " ++ decimal visits)))))
answer_text (answer.Nothing visits) = codes "none " ++ decimal visits
answer_text (answer.Refused number place) = codes "refused " ++ (decimal number ++ (codes " " ++ decimal place))
