-- Each call puts one part more.
use Rattle.std.proofs.Common.{arith, rules}
use Rattle.printing.proofs.Putting.{letters_first, field_next, line_end}
use Rattle.printing.proofs.text.frame_line.Goals as goal

pub returns : goal.returns
returns c = line_end (field_next (letters_first c.text.ensures.puts) c.field.ensures.puts) c.text-2.ensures.puts (omega arith) (search rules)
