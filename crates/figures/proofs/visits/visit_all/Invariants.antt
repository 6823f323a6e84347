-- The loop: the search with the turns left, from here, ends as the search from the start.
use Prim.Native.Nat.{ℕ}
use mathlib.Core.Path.{◌≡◌}
use Rattle.search.specs.declared.far.Far.{Far}
use Rattle.search.proofs.Laws.Searched.{Going}
use Rattle.figures.specs.Visiting.{Follows}
use Rattle.figures.proofs.visits.visit_all.Given as goal

abbrev pub invariant-loop : goal.invariant-loop
invariant-loop g l = (l.st.visits ≡ l.counter) × ((f : ℕ → Far) → Follows l.n (goal.F-post g l.far) f → Going f l.bounds l.n l.counter l.last l.st)
