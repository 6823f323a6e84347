-- The copy leaves the text where it was put, and the rest as it was.
use Rattle.std.proofs.Common.{rules, refl}
use Rattle.std.proofs.lemmas.Slice.{overwrites}
use Rattle.printing.proofs.text.Line.text.Goals as goal

pub returns-clause-puts : goal.returns-clause-puts
returns-clause-puts c = record { after = refl; holds = search (rules, overwrites); kept = search (rules, overwrites) }
