-- The visits over the bounds of targets are the search.
use native.Mathlib.Omega.{arith}
use Rattle.std.proofs.Common.{rules}
use Rattle.passes.specs.Legs.{legs_in}
use Rattle.figures.specs.Answered.{far_in}
use Rattle.figures.proofs.Laying.{legs_are_good, search_right}
use Rattle.figures.proofs.own.Own.search_all.Goals as goal

pub bounds-requires : goal.bounds-requires
bounds-requires c =
    let o = c.args.self in
    (omega (arith, o.ready.few_stops), legs_are_good o.n o.a.0 o.w.0 o.rows.now o.ready c.linked-linked.result.legs.now c.linked-linked.ensures)

pub returns : goal.returns
returns c =
    let o = c.args.self in
    let e = c.visit_all.ensures (far_in (legs_in c.linked-linked.result.legs.now) o.n) (search rules) in
    rw e (search_right o.n o.a.0 o.w.0 o.rows.now o.ready c.linked-linked.result.legs.now c.linked-linked.ensures _ c.bounds.new.out c.bounds.ensures)
