-- The loop: what is laid out and what is left make up the whole.
use Prim.Native.Nat.{◌-◌, ◌/◌, ◌≤◌}
use lib.ListN.{length}
use Rattle.rules.specs.Words.{things_from}
use Rattle.rules.specs.Day.{row_at, rows_of}
use Rattle.rules.proofs.Laws.Written.{Copying}
use Rattle.passes.specs.Legs.{legs_of, alone}
use Rattle.passes.proofs.legs.make_legs.Given as goal

abbrev pub invariant-loop-i : goal.invariant-loop-i
invariant-loop-i l = (l.k ≤ l.i) × Copying 1 alone (legs_of l.a.0 l.w.0 (rows_of l.rows)) (legs_of l.a.0 l.w.0 (things_from (row_at l.rows) (length l.rows / 5 - l.i) l.i)) l.initial.legs l.k l.legs
