-- The bytes before this one are taken, and what they print stands after what was made before.
use Rattle.std.proofs.Common.{take}
use Rattle.taking.specs.Room.{PieceWent}
use Rattle.taking.proofs.state.Desk.take_bytes.Given as goal

abbrev pub invariant-loop-b : goal.invariant-loop-b
invariant-loop-b l = PieceWent (take l.b-index l.bytes) l.initial.self.day.made l.initial.self l.self
