-- The first checks, then the answer over own rows.
use Prim.Native.Nat.{◌*◌}
use mathlib.Core.Path.{◌≡◌, refl}
use mathlib.Core.List.{[], ◌∷◌}
use Rattle.rules.specs.Table.{table}
use Rattle.rules.specs.Lent.{Fills}
use Rattle.figures.specs.Own.{Own, OwnTable}
use Rattle.figures.specs.Promises.{asked, room, takes, TablePromise}
use Rattle.figures.proofs.Judging.{refused}
use Rattle.figures.proofs.Answering.{first_refuses, then_fulfils}
use Rattle.figures.proofs.ask.Ask.table.Goals as goal

pub returns-in_err-own : goal.returns-in_err-own
unfolding TablePromise
returns-in_err-own c =
    let q = asked c.args.self in
    let t = takes [] [] (room c.args.out.now (q.n * q.n) ∷ []) in
    refused (table q t) _ _ _ _ c.from_residual.ensures.1 (first_refuses q t _ c.in_err-own.ensures) refl

pub returns : goal.returns
unfolding TablePromise
returns c =
    then_fulfils (asked c.args.self) c.in_ok-own.field-0 c.in_ok-own.ensures (λ (o : Own). takes [] [] (room c.args.out.now (o.n * o.n) ∷ []))
    (λ o x. Fills (o.n * o.n) (OwnTable o) c.args.out.now c.table.new.out)
    (c.table.new.out ≡ c.args.out.now) _ c.table.ensures
