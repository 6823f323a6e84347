-- The loop: the pass over the legs left, from here, ends as the pass over all.
use mathlib.Core.Path.{sym, ◌∙◌, ap}
use Rattle.passes.specs.Legs.{legs_in}
use Rattle.passes.specs.Forward.{init, passed}
use Rattle.passes.proofs.Laws.Links.{legs_past_end}
use Rattle.passes.proofs.Laws.Passed.{passed_append, init_long}
use Rattle.passes.proofs.Passing.{passed_past, laid_inside}
use Rattle.passes.proofs.forward.forward_pass.Goals as goal

pub loop-leg-preserved : goal.loop-leg-preserved
loop-leg-preserved c =
    let loop = c.loop-leg in
    let laid = c.requires.1.1 in
    let on = c.loop-leg-test.true in
    ap (passed _) c.relax.ensures
    ∙ (sym (passed_past c.args.legs.now loop.leg-index loop.out on (laid.rises loop.leg-index on)) ∙ loop.invariant)

pub returns : goal.returns
unfolding passed init
returns c =
    let args = c.args in
    let ls = legs_in args.legs.now in
    let loop = c.loop-leg in
    (rw (legs_past_end args.legs.now loop.leg-index c.loop-leg-test.false) at loop.invariant)
    ∙ (ap (passed ls) c.begin.ensures
    ∙ passed_append args.n ls (init args.since args.source args.n) _ (laid_inside args.n args.legs.now c.requires.1.1) (init_long _ _ _))
