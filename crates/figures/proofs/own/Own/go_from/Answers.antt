-- The pass over the legs fills the list.
use Rattle.figures.proofs.Laying.{pass_fills}
use Rattle.figures.proofs.own.Own.go_from.Goals as goal

pub returns : goal.returns
returns c =
    let o = c.args.self in
    pass_fills o.n o.a.0 o.w.0 o.rows.now o.ready c.legs-legs.result.now c.legs-legs.ensures c.args.source c.args.out.now _ c.requires.0 c.requires.1 c.forward_pass.ensures
