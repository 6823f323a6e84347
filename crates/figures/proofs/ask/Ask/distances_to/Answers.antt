-- The first checks, then the answer over own rows.
use mathlib.Core.Path.{◌≡◌, refl}
use mathlib.Core.List.{[], ◌∷◌}
use Rattle.rules.specs.Table.{table}
use Rattle.rules.specs.Lent.{Fills, scratch_places, Wiped}
use Rattle.figures.specs.Own.{Own, OwnDistance}
use Rattle.figures.specs.Promises.{asked, room, takes, DistancesToPromise}
use Rattle.figures.proofs.Judging.{refused}
use Rattle.figures.proofs.Answering.{first_refuses, then_fulfils}
use Rattle.figures.proofs.ask.Ask.distances_to.Goals as goal

pub returns-in_err-own : goal.returns-in_err-own
unfolding DistancesToPromise
returns-in_err-own c =
    let q = asked c.args.self in
    let t = takes (c.args.target ∷ []) [] (room c.args.out.now q.n ∷ room c.args.scratch.now scratch_places ∷ []) in
    refused (table q t) _ _ _ _ c.from_residual.ensures.1 (first_refuses q t _ c.in_err-own.ensures) (refl, refl)

pub returns : goal.returns
unfolding DistancesToPromise
returns c =
    then_fulfils (asked c.args.self) c.in_ok-own.field-0 c.in_ok-own.ensures (λ (o : Own). takes (c.args.target ∷ []) [] (room c.args.out.now o.n ∷ room c.args.scratch.now scratch_places ∷ []))
    (λ o x. Fills o.n (λ u. OwnDistance o u c.args.target) c.args.out.now c.distances_to.new.out × Wiped c.args.scratch.now c.distances_to.new.scratch)
    ((c.distances_to.new.out ≡ c.args.out.now) × (c.distances_to.new.scratch ≡ c.args.scratch.now)) _ c.distances_to.ensures
