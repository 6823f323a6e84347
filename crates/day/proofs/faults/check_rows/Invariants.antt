-- The loop: the scan of the rows left, from here, finds what the scan of all finds.
use Rattle.std.specs.Prelude.{◌-◌, ◌≡◌}
use Rattle.rules.specs.Words.{things_from}
use Rattle.rules.specs.Day.{row_at, rows_of}
use Rattle.day.specs.Verdicts.{Says, SaysBy, first_said}
use Rattle.day.proofs.faults.check_rows.Given as goal

abbrev pub invariant-loop-i : goal.invariant-loop-i
invariant-loop-i g l = (says : Says) → SaysBy (goal.F-post g l.check) says → first_said says l.last.0 l.i (things_from (row_at l.list) (l.i-end - l.i) l.i) ≡ first_said says 0 0 (rows_of l.list)
