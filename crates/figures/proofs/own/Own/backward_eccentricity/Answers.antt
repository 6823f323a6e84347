-- The last checks, the farthest source, and scratch set to 0.
use mathlib.Core.Path.{refl, sym}
use mathlib.Core.List.{[], ◌∷◌}
use Rattle.rules.specs.Lent.{scratch_places}
use Rattle.figures.specs.Own.{owned, own_table}
use Rattle.figures.specs.Promises.{room, takes}
use Rattle.figures.proofs.Judging.{refused}
use Rattle.figures.proofs.Lasting.{no_pivots, stop_named, room_wide, at_rooms, all_clear}
use Rattle.figures.proofs.Laying.{sweep_far}
use Rattle.figures.proofs.Answering.{far_right}
use Rattle.figures.proofs.own.Own.backward_eccentricity.Goals as goal

pub returns-in_err-check_room : goal.returns-in_err-check_room
returns-in_err-check_room c =
    let o = owned c.args.self in
    let t = takes (c.args.stop ∷ []) [] (room c.args.scratch.now scratch_places ∷ []) in
    refused (own_table o t) _ _ _ _ c.from_residual-in_err-check_room.ensures.1 (at_rooms o t c.in_ok-check_stop.ensures (no_pivots o.n o.A o.W) _ _ c.in_err-check_room.ensures) refl

pub wipe-requires : goal.wipe-requires
wipe-requires c = room_wide c.in_ok-check_room.ensures

pub returns : goal.returns
returns c =
    let own = c.args.self in
    let o = owned own in
    let t = takes (c.args.stop ∷ []) [] (room c.args.scratch.now scratch_places ∷ []) in
    let right = sweep_far o.n o.A o.W own.rows.now own.ready c.linked-linked.result.legs.now c.linked-linked.ensures c.args.stop (stop_named c.in_ok-check_stop.ensures) in
    let far = rw (sym c.far_to-far.ensures) at right in (
      all_clear o t c.in_ok-check_stop.ensures (no_pivots o.n o.A o.W) c.in_ok-check_room.ensures,
      (rw c.eccentricity_of.ensures (far_right _ c.far_to-far.result (λ z d p. far.nobody z p.0 d p.1) far.greatest), c.wipe.ensures),
    )
