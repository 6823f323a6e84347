-- The loop: the numbers of the first i pivots are laid out, and the rest of the list is kept.
use Rattle.passes.specs.Legs.{legs_in}
use Rattle.passes.specs.Pivots.{onward_pivot, into_pivot}
use Rattle.figures.proofs.Placing.{Laying}
use Rattle.figures.proofs.own.Own.lay_pivots.Given as goal

abbrev pub invariant-loop-i : goal.invariant-loop-i
invariant-loop-i l = Laying l.self.n l.pivots (onward_pivot l.self.n l.self.a.0 (legs_in l.legs)) (into_pivot l.self.n l.self.a.0 (legs_in l.legs)) l.i l.initial.list l.list
