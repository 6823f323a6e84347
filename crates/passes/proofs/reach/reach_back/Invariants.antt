-- The loop: the legs from k on are taken.
use Prim.Native.Nat.{◌-◌}
use mathlib.Core.Path.{◌≡◌}
use lib.ListN.{length}
use Rattle.passes.specs.Links.{legs_past}
use Rattle.passes.specs.Reach.{reached_back}
use Rattle.passes.proofs.reach.reach_back.Given as goal

abbrev pub invariant-loop-leg : goal.invariant-loop-leg
invariant-loop-leg l = l.out ≡ reached_back (legs_past l.legs (length l.legs - length l.yielded)) l.initial.out
