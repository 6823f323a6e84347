-- The first checks, then the answer over own rows.
use mathlib.Core.Path.{◌≡◌, refl}
use mathlib.Core.List.{[], ◌∷◌}
use Rattle.rules.specs.Table.{table}
use Rattle.rules.specs.Eccentricity.{Backward}
use Rattle.rules.specs.Lent.{scratch_places, Wiped}
use Rattle.figures.specs.Own.{Own, OwnPairs}
use Rattle.figures.specs.Promises.{asked, room, takes, seconds, BackwardEccentricityPromise}
use Rattle.figures.proofs.Judging.{refused}
use Rattle.figures.proofs.Answering.{first_refuses, then_fulfils}
use Rattle.figures.proofs.ask.Ask.backward_eccentricity.Goals as goal

pub returns-in_err-own : goal.returns-in_err-own
unfolding BackwardEccentricityPromise
returns-in_err-own c =
    let q = asked c.args.self in
    let t = takes (c.args.stop ∷ []) [] (room c.args.scratch.now scratch_places ∷ []) in
    refused (table q t) _ _ _ _ c.from_residual.ensures.1 (first_refuses q t _ c.in_err-own.ensures) refl

pub returns : goal.returns
unfolding BackwardEccentricityPromise
returns c =
    then_fulfils (asked c.args.self) c.in_ok-own.field-0 c.in_ok-own.ensures (λ (o : Own). takes (c.args.stop ∷ []) [] (room c.args.scratch.now scratch_places ∷ []))
    (λ o d. Backward (OwnPairs o) c.args.stop (seconds d) × Wiped c.args.scratch.now c.backward_eccentricity.new.scratch)
    (c.backward_eccentricity.new.scratch ≡ c.args.scratch.now) _ c.backward_eccentricity.ensures
