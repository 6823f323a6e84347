-- The loop: the legs past number k are swept, and nothing else is written.
use native.Mathlib.Omega.{arith}
use Rattle.passes.proofs.Linking.{beside_one}
use Rattle.passes.proofs.Sweeping.{next_small, follow_small, sweep_one}
use Rattle.passes.proofs.linked.LinkedLegs.sweep.Goals as goal

pub bounds-best-self : goal.bounds-best-self
bounds-best-self c = let self = c.args.self.now in follow_small _ _ _ _ self.linked self.orderly c.loop-k.k c.loop-k-test.true c.loop-k.invariant.0

pub bounds-best-self-in-loop-k : goal.bounds-best-self-in-loop-k
bounds-best-self-in-loop-k c = let self = c.args.self.now in next_small _ _ _ _ self.linked self.orderly c.loop-k.k c.loop-k-test.true c.loop-k.invariant.0

pub loop-k-preserved : goal.loop-k-preserved
loop-k-preserved c =
    let self = c.args.self.now in
    let links = self.links.now in
    let loop = c.loop-k in
    let on = c.loop-k-test.true in
    let leg = c.leg_no-leg in (
      omega arith,
      sweep_one self.legs.now self.orderly links.next links.follow self.linked.threads c.args.target loop.k on loop.invariant.0 loop.best leg.result c.arrival_from-own.result c.min.result loop.invariant.1 leg.ensures
          c.arrival_from-own.ensures c.min.ensures,
      beside_one _ loop.k _ _ _ on loop.invariant.0 loop.invariant.2,
    )
