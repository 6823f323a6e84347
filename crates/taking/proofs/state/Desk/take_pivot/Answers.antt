-- There are as many pivots as may be.
use Rattle.std.proofs.Common.{refl}
use Rattle.taking.specs.Laws.Steps.{pivot_refused}
use Rattle.taking.proofs.state.Desk.take_pivot.Goals as goal

pub returns-in_err-self-2 : goal.returns-in_err-self-2
returns-in_err-self-2 c =
    let full = c.in_err-self-2.ensures in
    let none = c.from_residual-in_err-self-2.ensures in
    rw none (pivot_refused c.args.self.now _ refl refl full.1 refl c.args.stop c.args.reading full.0)
