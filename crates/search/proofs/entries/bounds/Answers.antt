-- The loop: the legs left, entered from here, give the bounds of all.
use Rattle.std.proofs.Common.{arith, ap, ◌∙◌, ◌++◌, drop, replicate, length-take-le}
use Rattle.passes.specs.Forward.{nowhere}
use Rattle.passes.specs.Legs.{legs_in}
use Rattle.search.specs.Bounds.{entered_by}
use Rattle.search.proofs.Entering.{next_leg_sound, enter_more, enter_end, bounds_append}
use Rattle.search.proofs.entries.bounds.Goals as goal

pub enter-requires : goal.enter-requires
enter-requires c = omega (arith, (next_leg_sound c.loop-leg.invariant c.loop-leg-test.true).to_below, c.loop-leg.auto.out, c.fill.auto.self, c.requires.0)

pub loop-leg-preserved : goal.loop-leg-preserved
loop-leg-preserved c = enter_more c.loop-leg.invariant c.loop-leg-test.true c.enter.ensures

pub returns : goal.returns
returns c =
    let args = c.args in
    let legs = legs_in args.legs.now in
    let rest = drop args.n args.out.now in
    let begun = c.fill.ensures.after (λ y e. e) ∙ ap (λ k. replicate k nowhere) (length-take-le args.n args.out.now c.requires.0) in
    enter_end c.loop-leg.invariant c.loop-leg-test.false ∙ (ap (λ xs. entered_by legs (xs ++ rest)) begun ∙ bounds_append args.n legs rest c.requires.1)
