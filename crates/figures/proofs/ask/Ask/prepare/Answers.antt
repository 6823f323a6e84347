-- The plain checks, then the scan of the asker's rows.
use Prim.Native.Nat.{◌*◌}
use mathlib.Core.Path.{sym}
use mathlib.Core.Logic.{inr}
use native.Mathlib.Omega.{arith}
use lib.ListN.{length-take}
use lib.Seq.{length-take-le}
use Rattle.std.specs.Prelude.{Ok, Err}
use Rattle.std.proofs.lemmas.Result.{err_from_is_err_and}
use Rattle.rules.specs.Day.{asker's_rows}
use Rattle.rules.proofs.Laws.Checks.{clear_both}
use Rattle.day.proofs.Judging.{fault_judges}
use Rattle.figures.specs.Parts.{plain_checks, own_check}
use Rattle.figures.specs.Promises.{asked}
use Rattle.figures.proofs.Preparing.{list_fits, rows_few, front_rows}
use Rattle.figures.proofs.ask.Ask.prepare.Goals as goal

pub own_rows-k-requires : goal.own_rows-k-requires
own_rows-k-requires c =
    let f = c.in_ok-plain_check.ensures in
    omega (arith, list_fits c.args.self.list.now f.0 f.1.0, c.requires)

pub overflow_mul-k : goal.overflow_mul-k
overflow_mul-k c = omega (arith, rows_few (asked c.args.self) c.in_ok-plain_check.ensures.1.0 _ _ _ c.own_rows-k.ensures)

pub slice_bounds-first_fault-end : goal.slice_bounds-first_fault-end
slice_bounds-first_fault-end c = omega (arith, rows_few (asked c.args.self) c.in_ok-plain_check.ensures.1.0 _ _ _ c.own_rows-k.ensures, c.own_rows-k.auto, c.requires)

pub slice_bounds-first_fault-end-2 : goal.slice_bounds-first_fault-end-2
slice_bounds-first_fault-end-2 c =
    sym (length-take-le (c.own_rows-k.result * 5) c.own_rows-k.new.rows (omega (arith, rows_few (asked c.args.self) c.in_ok-plain_check.ensures.1.0 _ _ _ c.own_rows-k.ensures, c.own_rows-k.auto, c.requires)))

pub first_fault-requires : goal.first_fault-requires
first_fault-requires c =
    let few = rows_few (asked c.args.self) c.in_ok-plain_check.ensures.1.0 _ _ _ c.own_rows-k.ensures in
    simp length-take (omega arith)

pub returns-in_err-first_fault : goal.returns-in_err-first_fault
returns-in_err-first_fault c =
    let q = asked c.args.self in
    let f = c.in_ok-plain_check.ensures in
    let same = front_rows q f.1.0 _ _ _ c.own_rows-k.ensures in
    let p = err_from_is_err_and c.from_residual-in_err-first_fault.result c.from_residual-in_err-first_fault.ensures.1 in
    rw (p.1, p.2) (inr (f, fault_judges q.n (asker's_rows q) (Err _) (rw same at c.in_err-first_fault.ensures), (c.own_rows-k.result, c.own_rows-k.ensures)))

pub returns : goal.returns
returns c =
    let q = asked c.args.self in
    let f = c.in_ok-plain_check.ensures in
    let same = front_rows q f.1.0 _ _ _ c.own_rows-k.ensures in
    (clear_both (plain_checks q) (own_check q) f (fault_judges q.n (asker's_rows q) (Ok tt) (rw same at c.in_ok-first_fault.ensures)), c.own_rows-k.ensures)
