-- The last checks, and what the passes wrote.
use Prim.Native.Nat.{◌*◌}
use mathlib.Core.Path.{refl}
use mathlib.Core.List.{[], ◌∷◌}
use Rattle.figures.specs.Own.{owned, own_table}
use Rattle.figures.specs.Promises.{room, takes}
use Rattle.figures.proofs.Judging.{refused}
use Rattle.figures.proofs.Lasting.{none_named, no_pivots, room_wide, at_rooms, all_clear}
use Rattle.figures.proofs.Laying.{table_fills}
use Rattle.figures.proofs.own.Own.table.Goals as goal

pub returns-in_err-check_room : goal.returns-in_err-check_room
returns-in_err-check_room c =
    let o = owned c.args.self in
    let t = takes [] [] (room c.args.out.now (o.n * o.n) ∷ []) in
    refused (own_table o t) _ _ _ _ c.from_residual.ensures.1 (at_rooms o t (none_named o.n) (no_pivots o.n o.A o.W) _ _ c.in_err-check_room.ensures) refl

pub fill_table-requires : goal.fill_table-requires
fill_table-requires c = (room_wide c.in_ok-check_room.ensures, c.legs-legs.ensures.laid)

pub returns : goal.returns
returns c =
    let o = owned c.args.self in
    let t = takes [] [] (room c.args.out.now (o.n * o.n) ∷ []) in
    (all_clear o t (none_named o.n) (no_pivots o.n o.A o.W) c.in_ok-check_room.ensures, table_fills o.n o.A o.W c.args.self.rows.now c.args.self.ready c.legs-legs.result.now c.legs-legs.ensures c.args.out.now _ (room_wide c.in_ok-check_room.ensures) c.fill_table.ensures)
