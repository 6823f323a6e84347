-- Each call puts one part more.
use Rattle.std.proofs.Common.{arith, rules}
use Rattle.printing.proofs.Putting.{letters_first, number_first, field_next, line_end}
use Rattle.printing.proofs.text.answer_line.Goals as goal
use Rattle.printing.proofs.text.answer_line.Goals.{in-Value, in-Nothing, in-Refused}

pub returns : goal.returns
returns c =
    elim c.match-answer.branch [
      | in-Value w ↦
          rw (w.in-Value.is, ← w.into.ensures, ← w.into-in-Value.ensures, ← w.into-in-Value-2.ensures, ← w.into-in-Value-3.ensures)
          (line_end
          (field_next (field_next (field_next (number_first w.number.ensures.puts) w.field.ensures.puts) w.field-in-Value.ensures.puts) w.field-in-Value-2.ensures.puts)
          (rw w.line-is at c.text-2.ensures.puts) (omega arith) (search rules))
      | in-Nothing w ↦
          rw (w.in-Nothing.is, ← w.into-in-Nothing.ensures)
          (line_end (field_next (letters_first w.text.ensures.puts) w.field-in-Nothing.ensures.puts) (rw w.line-is at c.text-2.ensures.puts) (omega arith) (search rules))
      | in-Refused w ↦
          rw (w.in-Refused.is, ← w.into-in-Refused.ensures, ← w.into-in-Refused-2.ensures)
          (line_end (field_next (field_next (letters_first w.text-in-Refused.ensures.puts) w.field-in-Refused.ensures.puts) w.field-in-Refused-2.ensures.puts)
          (rw w.line-is at c.text-2.ensures.puts) (omega arith) (search rules))
    ]
