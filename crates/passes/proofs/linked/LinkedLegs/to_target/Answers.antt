-- The loop: u places are filled.
use Prim.Native.Nat.{◌<◌}
use native.Mathlib.Omega.{arith}
use mathlib.Core.Path.{◌≡◌, sym, ap, ◌∙◌}
use mathlib.Core.List.{◌++◌}
use lib.ListN.{get_or, take, drop}
use lib.Seq.{length-take-le}
use Rattle.passes.specs.Legs.{legs_in}
use Rattle.passes.specs.Backward.{distances_to}
use Rattle.passes.proofs.Sweeping.{head_small}
use Rattle.passes.proofs.Laws.Backward.{distances_at, length_distances}
use Rattle.passes.proofs.Laws.Swept.{swept_head}
use Rattle.passes.proofs.Filling.{fill_one, fill_whole}
use Rattle.passes.proofs.linked.LinkedLegs.to_target.Goals as goal

pub bounds-best-self : goal.bounds-best-self
bounds-best-self c =
    let self = c.args.self.now in
    let links = self.links.now in
    head_small self.legs.now links.head links.next links.follow self.linked self.orderly c.loop-u.u (omega (arith, length-take-le c.args.n c.args.out.now c.requires.n_in_bounds, c.requires.n_le_most_stops, c.loop-u-test.true))

pub loop-u-preserved : goal.loop-u-preserved
loop-u-preserved c =
    let args = c.args in
    let self = args.self.now in
    let links = self.links.now in
    let loop = c.loop-u in
    let ls = legs_in self.legs.now in
    let new = distances_to args.target ls args.n 0 in
    let on : loop.u < args.n = omega (arith, length-take-le args.n args.out.now c.requires.n_in_bounds, c.loop-u-test.true) in
    let reached = swept_head self.legs.now self.orderly args.target c.sweep.new.best links.head links.next links.follow loop.u self.linked c.sweep.ensures.swept (omega (arith, on, c.requires.n_le_most_stops)) in
    let is : c.arrival_from.result ≡ get_or new loop.u 0 = c.arrival_from.ensures ∙ (rw reached (sym (distances_at args.target ls args.n loop.u on))) in
    fill_one new (take args.n args.out.now) loop.u c.arrival_from.result loop.distance-items (omega (arith, on, length_distances args.target ls args.n 0)) c.loop-u-test.true loop.invariant is

pub returns : goal.returns
returns c =
    let args = c.args in
    let ls = legs_in args.self.now.legs.now in
    let loop = c.loop-u in
    let wide = length-take-le args.n args.out.now c.requires.n_in_bounds in
    let all : loop.u ≡ args.n = omega (arith, wide, c.loop-u-test.false, c.loop-u.auto.u-end) in
    ap (λ xs. xs ++ drop args.n args.out.now) (fill_whole (distances_to args.target ls args.n 0) (take args.n args.out.now) args.n loop.distance-items (length_distances args.target ls args.n 0) wide (rw all at loop.invariant))
