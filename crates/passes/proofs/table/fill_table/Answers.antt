-- The loop: the stretches so far stand at the front, and the rest is kept.
use Prim.Native.Nat.{ℕ}
use native.Mathlib.Omega.{arith}
use mathlib.Core.Path.{◌≡◌, ◌∙◌}
use mathlib.Core.List.{List}
use lib.ListN.{length}
use Rattle.rules.specs.Day.{Row}
use Rattle.passes.specs.Legs.{legs_in}
use Rattle.passes.specs.Forward.{stretch_of, init}
use Rattle.passes.proofs.Laws.Passed.{passed_length, init_long}
use Rattle.passes.proofs.Laws.Stretches.{square, table_none, table_more}
use Rattle.passes.proofs.table.fill_table.Goals as goal

stretch_length : (n : ℕ) (rs : List Row) (u : ℕ) → length (stretch_of n rs u) ≡ n
stretch_length n rs u = passed_length rs (init 0 u n) ∙ init_long 0 u n

pub loop-u-init : goal.loop-u-init
loop-u-init c =
    let args = c.args in
    let ls = legs_in args.legs.now in
    table_none args.n (stretch_of args.n ls) (stretch_length args.n ls) args.out.now

pub loop-u-preserved : goal.loop-u-preserved
loop-u-preserved c =
    let args = c.args in
    let ls = legs_in args.legs.now in
    let loop = c.loop-u in
    let fits = square loop.u args.n c.loop-u-test.true in
    table_more args.n (stretch_of args.n ls) (stretch_length args.n ls) args.out.now loop.u (length loop.out) loop.out c.forward_pass.new.out
    (omega (arith, c.requires)) loop.auto.out loop.invariant c.forward_pass.ensures
