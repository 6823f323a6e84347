-- The header is put as it stands.
use Rattle.std.proofs.Common.{arith, rules, refl}
use Rattle.printing.specs.Lines.{as_letters, last, more}
use Rattle.printing.proofs.Putting.{line_as_put}
use Rattle.printing.proofs.text.header_line.Goals as goal

pub returns : goal.returns
returns c =
    line_as_put (record { before = _; spaced = more as_letters (more as_letters (more as_letters (last as_letters))); whole = refl }) (omega arith) c.text.ensures.puts (search rules)
