-- The number stands after the space.
use Rattle.printing.proofs.Putting.{number_after}
use Rattle.printing.proofs.text.Line.field.Goals as goal

pub returns-clause-puts : goal.returns-clause-puts
returns-clause-puts c = number_after c.text.ensures.puts c.number.ensures.puts
