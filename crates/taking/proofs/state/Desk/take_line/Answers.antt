-- The line is no frame's text, or that of one that can't be done.
use Rattle.taking.specs.Laws.Steps.{line_stopped, line_no_text}
use Rattle.taking.proofs.state.Desk.take_line.Goals as goal

pub returns-in_default : goal.returns-in_default
returns-in_default c =
    let named = c.name_line.ensures in record { no_frame = line_no_text _ _ c.in_default.ensures; named = named.named; same_list = named.same_list; same_pivots = named.same_pivots }

pub returns-in-None : goal.returns-in-None
returns-in-None c =
    let named = c.name_line-in-None.ensures in line_stopped _ c.args.self.now _ _ _ c.in-Some.ensures c.in-None.ensures named.named named.same_list named.same_pivots
