-- The front of the room holds the asker's rows.
use Prim.Native.Nat.{◌*◌}
use mathlib.Core.Path.{sym, ap}
use mathlib.Core.List.{List}
use native.Mathlib.Omega.{arith}
use lib.Seq.{length-take-le}
use Rattle.rules.specs.Day.{Row}
use Rattle.figures.specs.Promises.{asked}
use Rattle.figures.proofs.Preparing.{rows_few, front_rows, front_ready}
use Rattle.figures.proofs.ask.Ask.own.Goals as goal

pub overflow_mul-result : goal.overflow_mul-result
overflow_mul-result c = let h = c.in_ok-k.ensures in omega (arith, rows_few (asked c.args.self) h.0.1.0 _ _ _ h.1)

pub slice_bounds-result-end : goal.slice_bounds-result-end
slice_bounds-result-end c =
    let h = c.in_ok-k.ensures in
    sym (length-take-le (c.in_ok-k.k * 5) c.prepare.new.rows (omega (arith, rows_few (asked c.args.self) h.0.1.0 _ _ _ h.1, c.prepare.auto.rows, c.requires)))

pub invariant_of-result : goal.invariant_of-result
invariant_of-result c =
    let h = c.in_ok-k.ensures in
    record { ready = front_ready (asked c.args.self) h.0.1.0 _ _ _ h.1 h.0 }

pub returns : goal.returns
returns c =
    let q = asked c.args.self in
    let h = c.in_ok-k.ensures in
    (h.0, ap (λ (rs : List Row). record { rows = rs; n = q.n; A = q.A; W = q.W }) (front_rows q h.0.1.0 _ _ _ h.1))
