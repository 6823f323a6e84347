-- A read ends at most 4,096 lines.
use Rattle.std.proofs.Common.{◌+◌, ◌*◌, ◌≤◌}
use Rattle.taking.specs.Room.{most_bytes}
use Rattle.figures_program.proofs.input.read_all.Given as goal

abbrev pub invariant-loop : goal.invariant-loop
invariant-loop l = l.desk.day.line ≤ 1 + l.counter * most_bytes
