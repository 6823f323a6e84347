-- The stop is below n, or it is not.
use native.Mathlib.Omega.{arith}
use mathlib.Core.Path.{refl}
use mathlib.Core.Logic.{inl}
use Rattle.rules.specs.Words.{any_here}
use Rattle.figures.proofs.Judging.{passes}
use Rattle.figures.proofs.Lasting.{none_of_one}
use Rattle.figures.proofs.own.Own.check_stop.Goals as goal

pub returns-then-stop-self : goal.returns-then-stop-self
returns-then-stop-self c = (passes (none_of_one (λ l. omega arith)), tt)

pub returns-else-stop-self : goal.returns-else-stop-self
returns-else-stop-self c = inl (refl, (refl, any_here c.if-stop-self.false))
