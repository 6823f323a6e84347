-- The last checks, and the farthest stop of the pass.
use mathlib.Core.Path.{sym}
use mathlib.Core.List.{[], ◌∷◌}
use Rattle.figures.specs.Own.{owned}
use Rattle.figures.specs.Promises.{takes}
use Rattle.figures.proofs.Lasting.{no_rooms, no_pivots, stop_named, all_clear}
use Rattle.figures.proofs.Laying.{pass_far}
use Rattle.figures.proofs.Answering.{far_right}
use Rattle.figures.proofs.own.Own.forward_eccentricity.Goals as goal

pub go_from-requires : goal.go_from-requires
go_from-requires c = (stop_named c.in_ok-check_stop.ensures, c.args.self.ready.few_stops)

pub returns : goal.returns
returns c =
    let own = c.args.self in
    let o = owned own in
    let below = stop_named c.in_ok-check_stop.ensures in
    let far = rw (sym c.farthest.ensures) at (pass_far o.n o.A o.W own.rows.now own.ready c.args.stop c.go_from.new.out below c.go_from.ensures.right) in (
      all_clear o (takes (c.args.stop ∷ []) [] []) c.in_ok-check_stop.ensures (no_pivots o.n o.A o.W) no_rooms,
      (rw c.eccentricity_of.ensures (far_right _ c.farthest.result (λ z d p. far.nobody z p.0 d p.1) far.greatest), tt),
    )
