-- The first checks, then the answer over own rows.
use mathlib.Core.List.{[], ◌∷◌}
use Rattle.rules.specs.Table.{table}
use Rattle.rules.specs.Eccentricity.{Forward}
use Rattle.figures.specs.Own.{Own, OwnPairs}
use Rattle.figures.specs.Promises.{asked, takes, seconds, ForwardEccentricityPromise}
use Rattle.figures.proofs.Judging.{refused}
use Rattle.figures.proofs.Answering.{first_refuses, then_fulfils}
use Rattle.figures.proofs.ask.Ask.forward_eccentricity.Goals as goal

pub returns-in_err-own : goal.returns-in_err-own
unfolding ForwardEccentricityPromise
returns-in_err-own c =
    let q = asked c.args.self in
    let t = takes (c.args.stop ∷ []) [] [] in
    refused (table q t) _ _ _ _ c.from_residual.ensures.1 (first_refuses q t _ c.in_err-own.ensures) tt

pub returns : goal.returns
unfolding ForwardEccentricityPromise
returns c =
    then_fulfils (asked c.args.self) c.in_ok-own.field-0 c.in_ok-own.ensures (λ (o : Own). takes (c.args.stop ∷ []) [] [])
    (λ o d. Forward (OwnPairs o) c.args.stop (seconds d) × Unit {0})
    (Unit {0}) _ c.forward_eccentricity.ensures
