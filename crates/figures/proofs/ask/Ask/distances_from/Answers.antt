-- The first checks, then the answer over own rows.
use mathlib.Core.Path.{◌≡◌, refl}
use mathlib.Core.List.{[], ◌∷◌}
use Rattle.rules.specs.Table.{table}
use Rattle.rules.specs.Lent.{Fills}
use Rattle.figures.specs.Own.{Own, OwnDistance}
use Rattle.figures.specs.Promises.{asked, room, takes, DistancesFromPromise}
use Rattle.figures.proofs.Judging.{refused}
use Rattle.figures.proofs.Answering.{first_refuses, then_fulfils}
use Rattle.figures.proofs.ask.Ask.distances_from.Goals as goal

pub returns-in_err-own : goal.returns-in_err-own
unfolding DistancesFromPromise
returns-in_err-own c =
    let q = asked c.args.self in
    let t = takes (c.args.source ∷ []) [] (room c.args.out.now q.n ∷ []) in
    refused (table q t) _ _ _ _ c.from_residual.ensures.1 (first_refuses q t _ c.in_err-own.ensures) refl

pub returns : goal.returns
unfolding DistancesFromPromise
returns c =
    then_fulfils (asked c.args.self) c.in_ok-own.field-0 c.in_ok-own.ensures (λ (o : Own). takes (c.args.source ∷ []) [] (room c.args.out.now o.n ∷ []))
    (λ o x. Fills o.n (OwnDistance o c.args.source) c.args.out.now c.distances_from.new.out)
    (c.distances_from.new.out ≡ c.args.out.now) _ c.distances_from.ensures
