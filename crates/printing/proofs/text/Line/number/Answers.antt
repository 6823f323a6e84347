-- A number takes 20 digits at most.
use Rattle.std.proofs.Common.{arith}
use Rattle.printing.specs.Laws.Spelling.{few_digits}
use Rattle.printing.specs.Lines.{in_decimal}
use Rattle.printing.proofs.text.Line.number.Goals as goal

pub returns-clause-puts : goal.returns-clause-puts
returns-clause-puts c =
    let made = c.decimal-k in
    let few = few_digits _ _ 20 (omega arith) (omega arith) made.ensures.len in
    record { text = _; spelt = in_decimal made.result made.ensures.len made.ensures.digits; short = omega arith; puts = c.text.ensures.puts }
