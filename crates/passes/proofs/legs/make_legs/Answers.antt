-- The loop: what is laid out and what is left make up the whole.
use Prim.Native.Nat.{◌/◌}
use native.Mathlib.Omega.{arith}
use mathlib.Core.Path.{refl, subst, sym, ◌∙◌}
use lib.ListN.{length}
use Rattle.rules.specs.Day.{Row, row_at}
use Rattle.rules.specs.Lent.{Kept}
use Rattle.rules.proofs.Laws.Written.{things_more, things_end, copy_step, copy_end, kept_most}
use Rattle.day.specs.Rows.{row_of}
use Rattle.passes.specs.Legs.{leg_of, fitsb, legs_of, alone}
use Rattle.passes.proofs.Keeping.{leg_kept, leg_left}
use Rattle.passes.proofs.legs.make_legs.Goals as goal
use Rattle.passes.proofs.legs.make_legs.Goals.{in-Some, in_default}

pub loop-i-preserved : goal.loop-i-preserved
unfolding legs_of
loop-i-preserved c =
    let args = c.args in
    let A = args.a.0 in
    let W = args.w.0 in
    let loop = c.loop-i in
    let on = c.loop-i-test.true in
    let row = row_at args.rows.now loop.i in
    let left = rw (things_more (row_at args.rows.now) (length args.rows.now / 5) loop.i on) at loop.invariant.1 in
    let kept : Kept 1 alone (fitsb A W row) (leg_of A row) loop.k loop.legs c.match-make_leg.k c.match-make_leg.legs =
    subst (λ (r : Row). Kept 1 alone (fitsb A W r) (leg_of A r) loop.k loop.legs c.match-make_leg.k c.match-make_leg.legs) c.row_at.ensures (elim c.match-make_leg.branch [
      | in-Some w ↦ rw (w.k-is, w.legs-is) (leg_kept A W (row_of c.row_at.result) loop.k loop.legs w.in-Some.leg (sym c.make_leg.ensures ∙ w.in-Some.is))
      | in_default w ↦ rw (w.k-is, w.legs-is) (leg_left A W (row_of c.row_at.result) loop.k loop.legs (sym c.make_leg.ensures ∙ w.in_default.is))
    ]) in
    (omega (arith, kept_most kept), copy_step 1 alone (λ r. refl) (fitsb A W row) _ _ _ _ _ _ _ _ (omega (arith, c.requires, loop.invariant.0, on)) left kept)

pub returns : goal.returns
unfolding legs_of
returns c =
    let rows = c.args.rows.now in
    let loop = c.loop-i in
    copy_end 1 alone (λ r. refl) _ _ _ _ (rw (things_end (row_at rows) (length rows / 5) loop.i c.loop-i-test.false) at loop.invariant.1)
