-- The loop: the legs past number k are swept, and nothing else is written.
use Prim.Native.Nat.{◌≤◌}
use lib.ListN.{length}
use Rattle.passes.specs.Links.{Beside}
use Rattle.passes.specs.Backward.{Swept}
use Rattle.passes.proofs.linked.LinkedLegs.sweep.Given as goal

abbrev pub invariant-loop-k : goal.invariant-loop-k
invariant-loop-k l =
    let legs = l.self.legs.now in
    (l.k ≤ length legs) × Swept legs l.target l.k l.best × Beside legs l.k l.initial.best l.best
