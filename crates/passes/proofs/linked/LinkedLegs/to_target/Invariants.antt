-- The loop: u places are filled.
use Rattle.passes.specs.Legs.{legs_in}
use Rattle.passes.specs.Backward.{distances_to}
use Rattle.passes.proofs.Filling.{Filled}
use Rattle.passes.proofs.linked.LinkedLegs.to_target.Given as goal

abbrev pub invariant-loop-u : goal.invariant-loop-u
invariant-loop-u l = Filled (distances_to l.target (legs_in l.self.legs.now) l.n 0) l.initial.distance-items l.u l.distance-items
