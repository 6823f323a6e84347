-- What was read of the last line is a line.
use Rattle.std.proofs.Common.{arith, Continue, Break}
use Rattle.taking.specs.Laws.Bytes.{end_line, end_empty}
use Rattle.taking.proofs.state.Desk.take_last.Goals as goal

pub returns-in-Continue : goal.returns-in-Continue
returns-in-Continue c = end_line c.args.self.now (Continue tt) _ c.requires.made (omega arith) c.in-Continue.ensures

pub returns-in-Break : goal.returns-in-Break
returns-in-Break c = end_line c.args.self.now (Break c.in-Break.made) _ c.requires.made (omega arith) c.in-Break.ensures

pub returns-then-at_start : goal.returns-then-at_start
returns-then-at_start c = end_empty c.args.self.now (omega arith)
