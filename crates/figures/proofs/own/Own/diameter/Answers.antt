-- The last checks, the end of the search, and scratch set to 0.
use mathlib.Core.Path.{refl}
use mathlib.Core.List.{[], ◌∷◌}
use Rattle.rules.specs.Lent.{scratch_places}
use Rattle.figures.specs.Own.{owned, own_table}
use Rattle.figures.specs.Promises.{room, takes}
use Rattle.figures.proofs.Judging.{refused}
use Rattle.figures.proofs.Lasting.{none_named, no_pivots, room_wide, at_rooms, all_clear}
use Rattle.figures.proofs.own.Own.diameter.Goals as goal

pub returns-in_err-check_room : goal.returns-in_err-check_room
returns-in_err-check_room c =
    let o = owned c.args.self in
    let t = takes [] [] (room c.args.scratch.now scratch_places ∷ []) in
    refused (own_table o t) _ _ _ _ c.from_residual.ensures.1 (at_rooms o t (none_named o.n) (no_pivots o.n o.A o.W) _ _ c.in_err-check_room.ensures) refl

pub wipe-requires : goal.wipe-requires
wipe-requires c = room_wide c.in_ok-check_room.ensures

pub returns : goal.returns
returns c =
    let o = owned c.args.self in
    let t = takes [] [] (room c.args.scratch.now scratch_places ∷ []) in
    (all_clear o t (none_named o.n) (no_pivots o.n o.A o.W) c.in_ok-check_room.ensures, (c.search_all-st.ensures, c.wipe.ensures))
