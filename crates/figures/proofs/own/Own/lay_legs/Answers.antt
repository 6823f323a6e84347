-- The front of the room holds the legs, and once they are linked the links stay.
use mathlib.Core.Path.{sym}
use native.Mathlib.Omega.{arith}
use lib.Seq.{length-take-le}
use Rattle.figures.proofs.Laying.{legs_few, front_laid}
use Rattle.figures.proofs.own.Own.lay_legs.Goals as goal

pub slice_bounds-fill-end : goal.slice_bounds-fill-end
slice_bounds-fill-end c =
    let o = c.args.self in
    omega (arith, legs_few o.n o.a.0 o.w.0 o.rows.now o.ready _ _ _ c.make_legs-count.ensures, c.make_legs-count.auto, c.requires)

pub slice_bounds-fill-end-2 : goal.slice_bounds-fill-end-2
slice_bounds-fill-end-2 c =
    let o = c.args.self in
    sym (length-take-le c.make_legs-count.result c.make_legs-count.new.legs (omega (arith, legs_few o.n o.a.0 o.w.0 o.rows.now o.ready _ _ _ c.make_legs-count.ensures, c.make_legs-count.auto, c.requires)))

pub fill-requires : goal.fill-requires
fill-requires c = let o = c.args.self in (front_laid o.n o.a.0 o.w.0 o.rows.now o.ready _ _ _ c.make_legs-count.ensures).orderly

pub returns : goal.returns
returns c =
    let o = c.args.self in
    record {
      copied = c.make_legs-count.ensures;
      within = omega (arith, legs_few o.n o.a.0 o.w.0 o.rows.now o.ready _ _ _ c.make_legs-count.ensures, c.make_legs-count.auto, c.requires);
      linked = c.fill.follows.holds-at-none;
    }
