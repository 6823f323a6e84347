-- The visits over the bounds under the pivots are the search.
use Rattle.std.proofs.Common.{rules}
use Rattle.passes.specs.Legs.{legs_in}
use Rattle.figures.specs.Answered.{far_kept}
use Rattle.figures.proofs.Joining.{joined_right}
use Rattle.figures.proofs.own.Own.search_joined.Goals as goal

pub returns : goal.returns
returns c =
    let o = c.args.self in
    let list = c.pivot_numbers-numbers.result.now in
    let e = c.visit_all.ensures (far_kept (legs_in c.linked-linked.result.legs.now) list o.n) (search rules) in
    rw e
    (joined_right o.n o.a.0 o.w.0 o.rows.now o.ready c.args.pivots.now c.requires.1 c.linked-linked.result.legs.now c.linked-linked.ensures list c.pivot_numbers-numbers.ensures _ c.pivot_bounds.new.out c.pivot_bounds.ensures)
