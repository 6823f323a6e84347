-- The part of the room that has a place for each pivot.
use Prim.Native.Nat.{◌-◌}
use mathlib.Core.Path.{sym, ◌∙◌}
use lib.Seq.{length-take-le}
use Rattle.rules.specs.Pivots.{pivots_of}
use Rattle.passes.specs.Forward.{init}
use Rattle.passes.specs.Reach.{reach_init}
use Rattle.passes.specs.Legs.{legs_in}
use Rattle.passes.specs.Pivots.{onward_pivot, into_pivot}
use Rattle.passes.proofs.Laws.Passed.{passed_length, init_long}
use Rattle.passes.proofs.Laws.Reach.{reached_back_length, reach_init_long}
use Rattle.search.proofs.Laws.Laid.{laid_out}
use Rattle.figures.proofs.Pivoting.{length_pivots}
use Rattle.figures.proofs.own.Own.pivot_numbers.Goals as goal

pub returns : goal.returns
returns c =
    let o = c.args.self in
    let pivots = c.args.pivots.now in
    let ls = legs_in c.args.legs.now in
    laid_out o.n (pivots_of pivots) (onward_pivot o.n o.a.0 ls) (into_pivot o.n o.a.0 ls) _ _ c.lay_pivots.ensures (length-take-le _ c.args.room.now c.requires.room ∙ sym (length_pivots pivots))
    (λ p m.
    let by = p.reading - o.a.0 in
    (passed_length ls (init by p.stop o.n) ∙ init_long by p.stop o.n, reached_back_length ls (reach_init by p.stop o.n) ∙ reach_init_long by p.stop o.n))
