-- The loop: the legs left, entered from here, give the bounds of all.
use Rattle.search.proofs.Entering.{Entering}
use Rattle.search.proofs.entries.bounds.Given as goal

abbrev pub invariant-loop-leg : goal.invariant-loop-leg
invariant-loop-leg l = Entering l.n l.legs l.initial.out l.out l.leg-index
