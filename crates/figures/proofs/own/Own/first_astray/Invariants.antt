-- The loop: no pivot before i is astray.
use Rattle.figures.proofs.Pivoting.{NoneAstray}
use Rattle.figures.proofs.own.Own.first_astray.Given as goal

abbrev pub invariant-loop-i : goal.invariant-loop-i
invariant-loop-i l = NoneAstray l.self.n l.self.a.0 l.self.w.0 l.pivots l.i
