-- The front of the room holds the legs, and they are linked.
use Rattle.figures.proofs.Laying.{front_laid}
use Rattle.figures.proofs.own.Own.linked.Goals as goal

pub invariant_of-result : goal.invariant_of-result
invariant_of-result c =
    let o = c.args.self in
    let h = c.lay_legs-count.ensures in
    record { orderly = (front_laid o.n o.a.0 o.w.0 o.rows.now o.ready _ _ _ h.copied).orderly; linked = h.linked.linked }

pub returns : goal.returns
returns c = let o = c.args.self in front_laid o.n o.a.0 o.w.0 o.rows.now o.ready _ _ _ c.lay_legs-count.ensures.copied
