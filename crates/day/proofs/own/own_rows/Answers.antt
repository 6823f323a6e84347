-- The loop: what is copied and what is left make up the whole.
use Rattle.std.specs.Prelude.{◌/◌, length}
use Rattle.std.proofs.Common.{refl, subst, arith}
use Rattle.rules.specs.Day.{Row, row_width, row_at, sees, own}
use Rattle.rules.specs.Struck.{numbers}
use Rattle.rules.specs.Lent.{Kept}
use Rattle.rules.proofs.Laws.Written.{things_more, things_end, copy_step, copy_end, kept_most}
use Rattle.day.proofs.own.own_rows.Goals as goal

pub loop-i-preserved : goal.loop-i-preserved
unfolding own
loop-i-preserved c =
    let list = c.args.list.now in
    let loop = c.loop-i in
    let kept = c.keep-k in
    let left = rw (things_more (row_at list) (length list / 5) loop.i c.loop-i-test.true) at loop.invariant.1 in
    let one = subst (λ (r : Row). Kept row_width numbers (sees c.args.asker r) r loop.k loop.rows kept.result kept.new.rows) c.row_at.ensures kept.ensures in
    (omega (arith, kept_most one), copy_step row_width numbers (λ r. refl) (sees c.args.asker (row_at list loop.i)) _ _ _ _ _ _ _ _ (omega arith) left one)

pub returns : goal.returns
unfolding own
returns c =
    let list = c.args.list.now in
    copy_end row_width numbers (λ r. refl) _ _ _ _ (rw (things_end (row_at list) (length list / 5) c.loop-i.i c.loop-i-test.false) at c.loop-i.invariant.1)
