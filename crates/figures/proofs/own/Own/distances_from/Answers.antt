-- The last checks, and what the pass wrote.
use mathlib.Core.Path.{refl}
use mathlib.Core.List.{[], ◌∷◌}
use Rattle.figures.specs.Own.{owned, own_table}
use Rattle.figures.specs.Promises.{room, takes}
use Rattle.figures.proofs.Judging.{refused}
use Rattle.figures.proofs.Lasting.{no_pivots, stop_named, room_wide, at_rooms, all_clear}
use Rattle.figures.proofs.own.Own.distances_from.Goals as goal

pub returns-in_err-check_room : goal.returns-in_err-check_room
returns-in_err-check_room c =
    let o = owned c.args.self in
    let t = takes (c.args.source ∷ []) [] (room c.args.out.now o.n ∷ []) in
    refused (own_table o t) _ _ _ _ c.from_residual-in_err-check_room.ensures.1 (at_rooms o t c.in_ok-check_stop.ensures (no_pivots o.n o.A o.W) _ _ c.in_err-check_room.ensures) refl

pub go_from-requires : goal.go_from-requires
go_from-requires c = (stop_named c.in_ok-check_stop.ensures, room_wide c.in_ok-check_room.ensures)

pub returns : goal.returns
returns c =
    let o = owned c.args.self in
    let t = takes (c.args.source ∷ []) [] (room c.args.out.now o.n ∷ []) in
    (all_clear o t c.in_ok-check_stop.ensures (no_pivots o.n o.A o.W) c.in_ok-check_room.ensures, c.go_from.ensures)
