-- The list is too short.
use mathlib.Core.Path.{refl}
use mathlib.Core.Logic.{inl}
use Rattle.rules.specs.Words.{any_here}
use Rattle.figures.proofs.checks.check_room.Goals as goal

pub returns-then-lent-wants : goal.returns-then-lent-wants
returns-then-lent-wants c = inl (refl, (refl, any_here c.if-lent-wants.true))
