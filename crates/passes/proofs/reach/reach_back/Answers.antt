-- The loop: the legs from the last on are taken.
use Prim.Native.Nat.{◌-◌}
use native.Mathlib.Omega.{arith}
use mathlib.Core.Path.{◌≡◌, sym, ◌∙◌, ap}
use lib.ListN.{length}
use Rattle.std.proofs.lemmas.Iterator.Adapters.{YieldsList-from_rev_slice}
use Rattle.std.proofs.lemmas.Iterator.Consumers.{YieldsList-turn, YieldsList-end}
use Rattle.std.proofs.lemmas.List.{length_push, length-reverse}
use Rattle.passes.proofs.Laws.Links.{legs_past_end}
use Rattle.passes.proofs.Laws.Reach.{reached_back_append, reach_init_long}
use Rattle.passes.proofs.Passing.{laid_inside}
use Rattle.passes.proofs.Reaching.{reached_turn}
use Rattle.passes.specs.Legs.{legs_in}
use Rattle.passes.specs.Reach.{reach_init, reached_back}
use Rattle.passes.proofs.reach.reach_back.Goals as goal

pub loop-leg-init : goal.loop-leg-init
unfolding reached_back
loop-leg-init c = sym (rw (legs_past_end c.args.legs.now (length c.args.legs.now - 0) (omega arith)))

pub loop-leg-preserved : goal.loop-leg-preserved
loop-leg-preserved c =
    let legs = c.args.legs.now in
    let loop = c.loop-leg in
    let turn = YieldsList-turn (YieldsList-from_rev_slice legs cc) loop.yielded _ loop.yielded_by _ _ c.in-Some.leg c.in-Some.is c.next.ensures.steps in
    c.take_back.ensures
    ∙ rw (length_push loop.yielded c.in-Some.leg)
    (reached_turn legs c.args.n (length loop.yielded) c.in-Some.leg.now _ loop.out c.requires.1.1.1 turn loop.invariant)

pub returns : goal.returns
unfolding reach_init
returns c =
    let args = c.args in
    let legs = args.legs.now in
    let loop = c.loop-leg in
    let end = YieldsList-end (YieldsList-from_rev_slice legs cc) loop.yielded _ loop.yielded_by _ _ c.in-None.is c.next.ensures.steps in
    let z : length legs - length loop.yielded ≡ 0 = omega (arith, end.1, length-reverse legs) in
    (rw z at loop.invariant)
    ∙ (ap (reached_back (legs_in legs)) c.begin.ensures
    ∙ reached_back_append args.n (legs_in legs) (reach_init args.by args.stop args.n) _ (laid_inside args.n legs c.requires.1.1.1) (reach_init_long _ _ _))
