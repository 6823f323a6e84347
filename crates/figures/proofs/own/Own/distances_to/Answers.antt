-- The last checks, what the sweep wrote, and scratch set to 0.
use mathlib.Core.Path.{refl}
use mathlib.Core.List.{[], ◌∷◌}
use Rattle.rules.specs.Lent.{scratch_places}
use Rattle.figures.specs.Own.{owned, own_table}
use Rattle.figures.specs.Promises.{room, takes}
use Rattle.figures.proofs.Judging.{refused}
use Rattle.figures.proofs.Lasting.{no_pivots, room_wide, room_first, room_then, rooms_clear, at_rooms, all_clear}
use Rattle.figures.proofs.Laying.{sweep_fills}
use Rattle.figures.proofs.own.Own.distances_to.Goals as goal

pub returns-in_err-check_room : goal.returns-in_err-check_room
returns-in_err-check_room c =
    let o = owned c.args.self in
    let out = room c.args.out.now o.n in
    let scratch = room c.args.scratch.now scratch_places in
    let t = takes (c.args.target ∷ []) [] (out ∷ scratch ∷ []) in
    refused (own_table o t) _ _ _ _ c.from_residual-in_err-check_room.ensures.1
    (at_rooms o t c.in_ok-check_stop.ensures (no_pivots o.n o.A o.W) _ _ (room_first out (scratch ∷ []) _ _ c.in_err-check_room.ensures)) (refl, refl)

pub returns-in_err-check_room-2 : goal.returns-in_err-check_room-2
returns-in_err-check_room-2 c =
    let o = owned c.args.self in
    let out = room c.args.out.now o.n in
    let scratch = room c.args.scratch.now scratch_places in
    let t = takes (c.args.target ∷ []) [] (out ∷ scratch ∷ []) in
    refused (own_table o t) _ _ _ _ c.from_residual-in_err-check_room-2.ensures.1
    (at_rooms o t c.in_ok-check_stop.ensures (no_pivots o.n o.A o.W) _ _ (room_then out (scratch ∷ []) c.in_ok-check_room.ensures _ _ c.in_err-check_room-2.ensures)) (refl, refl)

pub to_target-requires-clause-n_in_bounds : goal.to_target-requires-clause-n_in_bounds
to_target-requires-clause-n_in_bounds c = room_wide c.in_ok-check_room.ensures

pub wipe-requires : goal.wipe-requires
wipe-requires c = room_wide c.in_ok-check_room-2.ensures

pub returns : goal.returns
returns c =
    let own = c.args.self in
    let o = owned own in
    let out = room c.args.out.now o.n in
    let scratch = room c.args.scratch.now scratch_places in
    let t = takes (c.args.target ∷ []) [] (out ∷ scratch ∷ []) in (
      all_clear o t c.in_ok-check_stop.ensures (no_pivots o.n o.A o.W) (rooms_clear out (scratch ∷ []) c.in_ok-check_room.ensures c.in_ok-check_room-2.ensures),
      (sweep_fills o.n o.A o.W own.rows.now own.ready c.linked-linked.result.legs.now c.linked-linked.ensures c.args.target c.args.out.now _ (room_wide c.in_ok-check_room.ensures) c.to_target.ensures, c.wipe.ensures),
    )
