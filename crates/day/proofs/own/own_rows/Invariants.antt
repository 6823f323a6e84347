-- The loop: what is copied and what is left make up the whole.
use Rattle.std.specs.Prelude.{◌-◌, ◌≤◌}
use Rattle.rules.specs.Words.{things_from}
use Rattle.rules.specs.Day.{row_width, row_at, rows_of, own}
use Rattle.rules.specs.Struck.{numbers}
use Rattle.rules.proofs.Laws.Written.{Copying}
use Rattle.day.proofs.own.own_rows.Given as goal

abbrev pub invariant-loop-i : goal.invariant-loop-i
invariant-loop-i l = (l.k ≤ l.i) × Copying row_width numbers (own l.asker (rows_of l.list)) (own l.asker (things_from (row_at l.list) (l.i-end - l.i) l.i)) l.initial.rows l.k l.rows
