-- What is told of the two parts of the table makes what is told of the whole.
use native.Mathlib.Omega.{arith}
use mathlib.Core.Path.{sym}
use Rattle.std.specs.Prelude.{Ok, Err}
use Rattle.rules.specs.Day.{rows_of}
use Rattle.rules.specs.Table.{office_rows, office_table}
use Rattle.rules.proofs.Laws.Rows.{length_rows}
use Rattle.rules.proofs.Laws.Checks.{refuses_first, refuses_then, clear_both}
use Rattle.day.proofs.Judging.{office_judges}
use Rattle.figures.specs.Parts.{list_checks}
use Rattle.figures.specs.Promises.{OfficePromise}
use Rattle.figures.proofs.Judging.{refused, few_rows}
use Rattle.figures.proofs.office.office_check.Goals as goal

pub returns-in_err-list_check : goal.returns-in_err-list_check
unfolding OfficePromise
returns-in_err-list_check c =
    let list = c.args.list.now in
    refused (office_table list c.args.n) _ _ _ _ c.from_residual.ensures.1 (refuses_first (list_checks list c.args.n) (office_rows c.args.n (rows_of list)) _ _ c.in_err-list_check.ensures) tt

pub first_wrong-requires : goal.first_wrong-requires
first_wrong-requires c = few_rows c.args.list.now c.in_ok-list_check.ensures.1.0

pub returns-in_err-first_wrong : goal.returns-in_err-first_wrong
unfolding OfficePromise
returns-in_err-first_wrong c =
    let list = c.args.list.now in
    let wrong = office_judges c.args.n (rows_of list) (Err _) c.in_err-first_wrong.ensures in
    refused (office_table list c.args.n) _ _ _ _ c.from_residual-in_err-first_wrong.ensures.1
    (refuses_then (list_checks list c.args.n) (office_rows c.args.n (rows_of list)) _ _ c.in_ok-list_check.ensures wrong) tt

pub overflow_cast-result : goal.overflow_cast-result
overflow_cast-result c = omega (arith, few_rows c.args.list.now c.in_ok-list_check.ensures.1.0)

pub returns : goal.returns
unfolding OfficePromise
returns c =
    let list = c.args.list.now in
    let right = office_judges c.args.n (rows_of list) (Ok tt) c.in_ok-first_wrong.ensures in
    (clear_both (list_checks list c.args.n) (office_rows c.args.n (rows_of list)) c.in_ok-list_check.ensures right, sym (length_rows list))
