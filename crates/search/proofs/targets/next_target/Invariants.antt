-- The loop: the next target of those of the stops so far.
use Rattle.std.specs.Prelude.{◌≡◌}
use Rattle.search.specs.Targets.{next_in}
use Rattle.search.proofs.targets.next_target.Given as goal

abbrev pub invariant-loop-stop : goal.invariant-loop-stop
invariant-loop-stop l = l.next ≡ next_in l.bounds l.last l.stop
