-- A digit that is read is a digit of the line, and eight digits fit.
use Rattle.std.proofs.Common.{arith}
use Rattle.frames.proofs.Laws.Places.{number_none, number_more, number_room, part_place}
use Rattle.frames.proofs.digits.number_at.Goals as goal

pub loop-b-init : goal.loop-b-init
loop-b-init c = number_none _ _

pub overflow_mul-x : goal.overflow_mul-x
overflow_mul-x c = omega (arith, number_room c.loop-b.invariant (omega arith))

pub digit-requires : goal.digit-requires
digit-requires c = rw (part_place c.args.line.now c.args.at c.args.k c.loop-b.b-index (omega arith)) (c.requires.all _ 0 (omega arith))

pub overflow_add-x : goal.overflow_add-x
overflow_add-x c = omega (arith, number_room c.loop-b.invariant (omega arith), c.digit.ensures)

pub loop-b-preserved : goal.loop-b-preserved
loop-b-preserved c = number_more _ _ _ _ _ (omega arith) c.loop-b.invariant (rw (part_place c.args.line.now c.args.at c.args.k c.loop-b.b-index (omega arith)) at c.digit.ensures)
