-- The loop: the pass over the legs left, from here, ends as the pass over all.
use mathlib.Core.Path.{◌≡◌}
use Rattle.passes.specs.Legs.{legs_in}
use Rattle.passes.specs.Links.{legs_past}
use Rattle.passes.specs.Forward.{passed}
use Rattle.passes.proofs.forward.forward_pass.Given as goal

abbrev pub invariant-loop-leg : goal.invariant-loop-leg
invariant-loop-leg l = passed (legs_past l.legs l.leg-index) l.out ≡ passed (legs_in l.legs) l.initial.out
