-- How what is told of a part of the table leaves a function.
use Prim.Native.Nat.{ℕ, ◌/◌, ◌≤◌, ◌<◌}
use native.Mathlib.Omega.{arith}
use native.Mathlib.Decide.{dec_lt}
use mathlib.Core.Path.{◌≡◌, refl}
use mathlib.Core.Logic.{inr}
use mathlib.Core.List.{List, ◌∷◌}
use lib.ListN.{length}
use Rattle.std.specs.Prelude.{Result, Ok, Err, IsErrAnd}
use Rattle.std.proofs.lemmas.Result.{err_from_is_err_and}
use Rattle.rules.specs.Day.{row_width, most_rows, rows_of}
use Rattle.rules.specs.Table.{Check, check_2, Refuses}
use Rattle.rules.proofs.Laws.Rows.{length_rows}
use Rattle.day.specs.Verdicts.{Judges}
use Rattle.day.specs.Refusals.{number_of, place_of}
use Rattle.day.specs.declared.refusal.Refusal.{Refusal}
use Rattle.figures.specs.Promises.{Fulfils}

-- a check that is given where P holds is not given where P does not
pub passes : {P : Type 0} → (P → ⊥) → (place : ℕ) → (place ≡ 0) × P → ⊥
passes h place x = h x.1

-- a refusal that a `?` passes on
pub refused : {T : Type 0} (cs : List Check) (Answered : T → Type 0) (Unchanged : Type 0) (r : Result T Refusal) (x : Refusal)
    → IsErrAnd r (λ y. y ≡ x) → Refuses cs (number_of x) (place_of x) → Unchanged → Fulfils cs Answered Unchanged r
refused cs Answered Unchanged r x e h u = let p = err_from_is_err_and r e in rw (p.1, p.2) (h, u)

-- what is told of the checks after one that is not given is told of all
pub judges_next : (check : Check) (checks : List Check) (v : Result (Unit {0}) Refusal) → ((place : ℕ) → check.given place → ⊥) → Judges checks v → Judges (check ∷ checks) v
judges_next check checks (Ok x) clear h = (clear, h)
judges_next check checks (Err r) clear h = inr (clear, h)

-- a list that passes 2 has at most 2,048 rows
pub few_rows : (list : List ℕ) → ((place : ℕ) → (check_2 list).given place → ⊥) → length list / row_width ≤ most_rows
few_rows list clear = go (dec_lt most_rows (length (rows_of list)))
  where
    go : Dec (most_rows < length (rows_of list)) → length list / row_width ≤ most_rows
    go (yes l) = absurd (clear 0 (refl, l))
    go (no l) = omega (arith, length_rows list)
