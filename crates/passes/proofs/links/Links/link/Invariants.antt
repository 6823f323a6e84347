-- The loop: the legs past number k are linked.
use Prim.Native.Nat.{◌≤◌}
use lib.ListN.{length}
use Rattle.passes.specs.Links.{Beside}
use Rattle.passes.proofs.Linking.{Linking}
use Rattle.passes.proofs.links.Links.link.Given as goal

abbrev pub invariant-loop-k : goal.invariant-loop-k
invariant-loop-k l =
    (l.k ≤ length l.legs)
    × Linking l.legs l.k l.self.head l.self.next l.self.follow l.jumps.to l.jumps.depth
    × Beside l.legs l.k l.initial.self.next l.self.next
    × Beside l.legs l.k l.initial.self.follow l.self.follow
