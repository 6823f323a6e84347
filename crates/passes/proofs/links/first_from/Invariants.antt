-- The loop: the search from leg j ends where the search from leg k does.
use Prim.Native.Nat.{◌-◌, ◌%◌, ◌≤◌}
use mathlib.Core.Path.{◌≡◌}
use lib.ListN.{length}
use Rattle.passes.specs.Links.{link_places, onward}
use Rattle.passes.proofs.links.first_from.Given as goal

abbrev pub invariant-loop-j : goal.invariant-loop-j
invariant-loop-j l = (l.j ≤ length l.legs) × ((1 ≤ l.j → (1 ≤ l.k) × (l.k ≤ l.j)) × (onward l.legs l.j l.t.0 ≡ onward l.legs l.k l.t.0))

abbrev pub decreases-loop-j : goal.decreases-loop-j
decreases-loop-j l = (link_places - l.j) % link_places
