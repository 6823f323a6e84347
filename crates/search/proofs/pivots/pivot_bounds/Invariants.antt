-- The loop: v places are filled.
use Rattle.search.specs.Pivots.{bound_under}
use Rattle.search.proofs.Keeping.{Filled}
use Rattle.search.proofs.pivots.pivot_bounds.Given as goal

abbrev pub invariant-loop-v : goal.invariant-loop-v
invariant-loop-v l = Filled (bound_under l.pivots) l.initial.bound-items l.v l.bound-items
