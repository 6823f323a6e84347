-- The first checks, then the answer over own rows.
use mathlib.Core.Path.{◌≡◌, refl}
use mathlib.Core.List.{[], ◌∷◌}
use Rattle.rules.specs.Lent.{scratch_places, Wiped}
use Rattle.rules.specs.Table.{table}
use Rattle.search.specs.declared.state.Search.{Search}
use Rattle.search.specs.Found.{Right}
use Rattle.figures.specs.Own.{Own, OwnJoined, OwnUnder}
use Rattle.figures.specs.Promises.{asked, room, takes}
use Rattle.figures.proofs.Judging.{refused}
use Rattle.figures.proofs.Answering.{first_refuses, then_fulfils}
use Rattle.figures.proofs.ask.Ask.pivot_diameter_end.Goals as goal

pub returns-in_err-own : goal.returns-in_err-own
returns-in_err-own c =
    let q = asked c.args.self in
    let t = takes [] c.args.pivots.now (room c.args.scratch.now scratch_places ∷ []) in
    refused (table q t) _ _ _ _ c.from_residual.ensures.1 (first_refuses q t _ c.in_err-own.ensures) refl

pub returns : goal.returns
returns c =
    then_fulfils (asked c.args.self) c.in_ok-own.field-0 c.in_ok-own.ensures (λ (o : Own). takes [] c.args.pivots.now (room c.args.scratch.now scratch_places ∷ []))
    (λ (o : Own) (st : Search). Right (OwnJoined o c.args.pivots.now) (OwnUnder o c.args.pivots.now) st × Wiped c.args.scratch.now c.pivot_diameter.new.scratch)
    (c.pivot_diameter.new.scratch ≡ c.args.scratch.now) _ c.pivot_diameter.ensures
