-- The loop: a distance is overwritten, or stays.
use Rattle.std.proofs.Common.{arith}
use Rattle.std.proofs.lemmas.Grind.{common_steps}
use Rattle.search.proofs.Keeping.{fill_one, fill_kept, fill_reads}
use Rattle.search.proofs.pivots.keep_joined.Goals as goal
use Rattle.search.proofs.pivots.keep_joined.Goals.{then-not-is_joined, else-not-is_joined}

pub loop-u-preserved : goal.loop-u-preserved
loop-u-preserved c = elim c.if-not-is_joined.branch [
  | then-not-is_joined w ↦ grind (arith, common_steps, fill_one)
  | else-not-is_joined w ↦ grind (arith, common_steps, fill_kept, fill_reads)
]
