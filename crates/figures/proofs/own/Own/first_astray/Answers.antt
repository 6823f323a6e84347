-- The loop: no pivot before i is astray.
use mathlib.Core.Logic.{inl}
use mathlib.Core.Path.{refl}
use Rattle.figures.proofs.Pivoting.{is_astray, one_more_sits, all_sit}
use Rattle.figures.proofs.own.Own.first_astray.Goals as goal

pub returns-then-is_astray : goal.returns-then-is_astray
returns-then-is_astray c =
    let loop = c.loop-i in
    let o = c.args.self in
    inl (refl, is_astray o.n o.a.0 o.w.0 c.args.pivots.now loop.i c.loop-i-test.true (cc) loop.invariant)

pub loop-i-preserved : goal.loop-i-preserved
loop-i-preserved c =
    let loop = c.loop-i in
    let o = c.args.self in
    one_more_sits o.n o.a.0 o.w.0 c.args.pivots.now loop.i c.loop-i-test.true (cc) loop.invariant

pub returns : goal.returns
returns c =
    let loop = c.loop-i in
    let o = c.args.self in
    (λ place h. all_sit o.n o.a.0 o.w.0 c.args.pivots.now loop.i c.loop-i-test.false loop.invariant place h.holds, tt)
