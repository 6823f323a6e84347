-- The loop: the scan of the rows left, from here, finds what the scan of all finds.
use Rattle.std.specs.Prelude.{◌/◌, length, Ok, Err}
use Rattle.std.proofs.Common.{sym, ◌∙◌}
use Rattle.std.proofs.lemmas.Result.{err_from_is_err_and}
use Rattle.day.specs.Rows.{row_of}
use Rattle.day.proofs.Saying.{said_next, said_found, said_end}
use Rattle.day.proofs.faults.check_rows.Goals as goal

pub returns-in_err-check : goal.returns-in_err-check
returns-in_err-check g c says by =
    let loop = c.loop-i in
    let list = c.args.list.now in
    let p = err_from_is_err_and c.from_residual.result c.from_residual.ensures.1 in
    let said = by c.row_at-row.result loop.last loop.i (Err c.in_err-check.field-0.0) c.in_err-check.ensures in
    rw (p.1, p.2) (sym (said_found says list (length list / 5) loop.i loop.last.0 (row_of c.row_at-row.result) _ c.loop-i-test.true c.row_at-row.ensures said) ∙ loop.invariant says by)

pub loop-i-preserved : goal.loop-i-preserved
loop-i-preserved g c says by =
    let loop = c.loop-i in
    let list = c.args.list.now in
    let said = by c.row_at-row.result loop.last loop.i (Ok c.in_ok-check.field-0) c.in_ok-check.ensures in
    sym (said_next says list (length list / 5) loop.i loop.last.0 (row_of c.row_at-row.result) c.loop-i-test.true c.row_at-row.ensures said) ∙ loop.invariant says by

pub returns : goal.returns
returns g c says by =
    let loop = c.loop-i in
    let list = c.args.list.now in
    sym (said_end says list (length list / 5) loop.i loop.last.0 c.loop-i-test.false) ∙ loop.invariant says by
