-- The loop: the legs past number k are linked.
use native.Mathlib.Omega.{arith}
use Rattle.passes.proofs.Linking.{beside_one, beside_none, linking_none, link_one, from_stop, to_stop, first_within, first_small, first_chained}
use Rattle.passes.proofs.links.Links.link.Goals as goal

pub loop-k-init : goal.loop-k-init
loop-k-init c =
    let links = c.args.self.now in
    (omega arith, linking_none c.args.legs.now links.next links.follow (omega arith) (omega arith), beside_none _ _ _, beside_none _ _ _)

pub bounds-self-to : goal.bounds-self-to
bounds-self-to c = to_stop _ c.loop-k.k _ c.leg_no-leg.ensures c.requires c.loop-k-test.true c.loop-k.invariant.0

pub first_from-requires-clause-k_bound : goal.first_from-requires-clause-k_bound
first_from-requires-clause-k_bound c =
    let to = to_stop _ c.loop-k.k _ c.leg_no-leg.ensures c.requires c.loop-k-test.true c.loop-k.invariant.0 in
    first_within _ _ _ _ _ _ _ c.loop-k.invariant.1 _ to

pub first_from-requires-clause-chained : goal.first_from-requires-clause-chained
first_from-requires-clause-chained c =
    let to = to_stop _ c.loop-k.k _ c.leg_no-leg.ensures c.requires c.loop-k-test.true c.loop-k.invariant.0 in
    first_chained _ _ _ _ _ _ _ c.loop-k.invariant.1 _ to

pub bounds-self-from : goal.bounds-self-from
bounds-self-from c = from_stop _ c.loop-k.k _ c.leg_no-leg.ensures c.requires c.loop-k-test.true c.loop-k.invariant.0

pub jump_of-requires-clause-p_most : goal.jump_of-requires-clause-p_most
jump_of-requires-clause-p_most c =
    let from = from_stop _ c.loop-k.k _ c.leg_no-leg.ensures c.requires c.loop-k-test.true c.loop-k.invariant.0 in
    first_small _ _ _ _ _ _ _ c.loop-k.invariant.1 _ from c.requires

pub bounds-jumps-after : goal.bounds-jumps-after
bounds-jumps-after c =
    let from = from_stop _ c.loop-k.k _ c.leg_no-leg.ensures c.requires c.loop-k-test.true c.loop-k.invariant.0 in
    omega (arith, first_small _ _ _ _ _ _ _ c.loop-k.invariant.1 _ from c.requires)

pub bounds-self-from-in-loop-k : goal.bounds-self-from-in-loop-k
bounds-self-from-in-loop-k c = from_stop _ c.loop-k.k _ c.leg_no-leg.ensures c.requires c.loop-k-test.true c.loop-k.invariant.0

pub loop-k-preserved : goal.loop-k-preserved
loop-k-preserved c =
    let loop = c.loop-k in
    let leg = c.leg_no-leg in
    let on = c.loop-k-test.true in (
      omega arith,
      link_one c.args.legs.now c.requires loop.k on loop.invariant.0 _ _ _ _ _ loop.invariant.1 leg.result _ _ leg.ensures c.first_from.ensures c.jump_of.ensures,
      beside_one _ loop.k _ _ _ on loop.invariant.0 loop.invariant.2,
      beside_one _ loop.k _ _ _ on loop.invariant.0 loop.invariant.3,
    )
