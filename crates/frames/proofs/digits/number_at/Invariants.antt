-- Invariant: x is the number of the first digits.
use Rattle.frames.specs.Parts.{NumberAt}
use Rattle.frames.proofs.digits.number_at.Given as goal

abbrev pub invariant-loop-b : goal.invariant-loop-b
invariant-loop-b l = NumberAt l.line l.at l.b-index l.x
