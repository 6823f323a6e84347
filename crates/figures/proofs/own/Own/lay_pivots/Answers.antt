-- The loop: the numbers of the first i pivots are laid out, and the rest of the list is kept.
use native.Mathlib.Omega.{arith}
use mathlib.Core.Path.{sym, ap, ◌∙◌}
use mathlib.Core.List.{[]}
use lib.ListN.{get_or, set}
use Rattle.rules.specs.Pivots.{Pivot}
use Rattle.passes.specs.Legs.{legs_in}
use Rattle.passes.specs.Pivots.{onward_pivot, into_pivot}
use Rattle.search.specs.Pivots.{numbers_over}
use Rattle.figures.proofs.Pivoting.{pivot_sits}
use Rattle.figures.proofs.Placing.{at_get, laying_more, laying_end}
use Rattle.figures.proofs.own.Own.lay_pivots.Goals as goal

pub lay_pivot-requires-clause-sits : goal.lay_pivot-requires-clause-sits
lay_pivot-requires-clause-sits c =
    let o = c.args.self in
    let sits = rw (sym c.pivot_at.ensures) at (pivot_sits o.n o.a.0 o.w.0 c.args.pivots.now c.loop-i.i c.requires.sit c.loop-i-test.true) in
    (sits.below, (sits.not_before, omega (arith, sits.not_after, o.ready.in_day)))

pub loop-i-preserved : goal.loop-i-preserved
loop-i-preserved c =
    let o = c.args.self in
    let loop = c.loop-i in
    let ls = legs_in c.args.legs.now in
    let onward = onward_pivot o.n o.a.0 ls in
    let into = into_pivot o.n o.a.0 ls in
    let x = get_or loop.list loop.i (record { onward = []; into = [] }) in
    let e = c.lay_pivot.ensures ∙ ap (λ (p : Pivot). numbers_over o.n (onward p) (into p) x) c.pivot_at.ensures in
    laying_more o.n c.args.pivots.now onward into loop.i c.args.list.now loop.list _ x (at_get loop.list loop.i _ (omega arith)) (ap (set loop.list loop.i) e) loop.invariant

pub returns : goal.returns
returns c =
    let o = c.args.self in
    let ls = legs_in c.args.legs.now in
    laying_end o.n c.args.pivots.now (onward_pivot o.n o.a.0 ls) (into_pivot o.n o.a.0 ls) c.loop-i.i c.args.list.now c.loop-i.list (omega arith) c.loop-i.invariant
