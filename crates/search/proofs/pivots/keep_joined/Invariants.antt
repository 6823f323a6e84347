-- The loop: u places are filled, and the rest is as it was.
use Rattle.search.specs.Pivots.{kept_at}
use Rattle.search.proofs.Keeping.{Filled}
use Rattle.search.proofs.pivots.keep_joined.Given as goal

abbrev pub invariant-loop-u : goal.invariant-loop-u
invariant-loop-u l = Filled (kept_at l.pivots l.target l.fn.out) l.initial.distance-items l.u l.distance-items
