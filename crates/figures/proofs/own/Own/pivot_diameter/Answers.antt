-- The checks on the pivots and on scratch, the end of the search, and scratch set to 0.
use mathlib.Core.Path.{refl}
use mathlib.Core.List.{[], ◌∷◌}
use Rattle.rules.specs.Lent.{scratch_places}
use Rattle.figures.specs.Own.{owned, own_table}
use Rattle.figures.specs.Promises.{room, takes}
use Rattle.figures.proofs.Judging.{refused}
use Rattle.figures.proofs.Lasting.{none_named, room_wide, at_pivots, at_rooms, all_clear}
use Rattle.figures.proofs.Pivoting.{pivots_clear}
use Rattle.figures.proofs.own.Own.pivot_diameter.Goals as goal

pub returns-in_err-check_pivots : goal.returns-in_err-check_pivots
returns-in_err-check_pivots c =
    let o = owned c.args.self in
    let t = takes [] c.args.pivots.now (room c.args.scratch.now scratch_places ∷ []) in
    refused (own_table o t) _ _ _ _ c.from_residual.ensures.1 (at_pivots o t (none_named o.n) _ _ c.in_err-check_pivots.ensures) refl

pub returns-in_err-check_room : goal.returns-in_err-check_room
returns-in_err-check_room c =
    let o = owned c.args.self in
    let t = takes [] c.args.pivots.now (room c.args.scratch.now scratch_places ∷ []) in
    refused (own_table o t) _ _ _ _ c.from_residual-in_err-check_room.ensures.1 (at_rooms o t (none_named o.n) c.in_ok-check_pivots.ensures _ _ c.in_err-check_room.ensures) refl

pub search_joined-st-requires : goal.search_joined-st-requires
search_joined-st-requires c = let o = c.args.self in pivots_clear o.n o.a.0 o.w.0 c.args.pivots.now c.in_ok-check_pivots.ensures

pub wipe-requires : goal.wipe-requires
wipe-requires c = room_wide c.in_ok-check_room.ensures

pub returns : goal.returns
returns c =
    let o = owned c.args.self in
    let t = takes [] c.args.pivots.now (room c.args.scratch.now scratch_places ∷ []) in
    (all_clear o t (none_named o.n) c.in_ok-check_pivots.ensures c.in_ok-check_room.ensures, (c.search_joined-st.ensures, c.wipe.ensures))
