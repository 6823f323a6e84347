-- The front of the room holds the legs.
use mathlib.Core.Path.{sym}
use native.Mathlib.Omega.{arith}
use lib.Seq.{length-take-le}
use Rattle.figures.proofs.Laying.{legs_few, front_laid}
use Rattle.figures.proofs.own.Own.legs.Goals as goal

pub slice_bounds-result-end : goal.slice_bounds-result-end
slice_bounds-result-end c =
    let o = c.args.self in
    sym (length-take-le c.make_legs-m.result c.make_legs-m.new.legs (omega (arith, legs_few o.n o.a.0 o.w.0 o.rows.now o.ready _ _ _ c.make_legs-m.ensures, c.make_legs-m.auto, c.requires)))

pub returns : goal.returns
returns c = let o = c.args.self in front_laid o.n o.a.0 o.w.0 o.rows.now o.ready _ _ _ c.make_legs-m.ensures
