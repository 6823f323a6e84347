-- The thing stands after the others.
use Rattle.std.proofs.Common.{refl, arith, rules, ◌≡◌, ◌≤◌, ◌+◌, ◌*◌, add-one, suc-mul, length}
use Rattle.std.proofs.lemmas.Slice.{overwrites}
use Rattle.taking.proofs.take.put.Goals as goal

pub returns : goal.returns
returns g c =
    let count = c.args.count in
    let step : (count + 1) * g.row.WIDTH ≡ count * g.row.WIDTH + g.row.WIDTH = rw (add-one count) (suc-mul count g.row.WIDTH) in
    let inside : count * g.row.WIDTH + g.row.WIDTH ≤ length c.args.room.now = grind arith in
    let after = c.copy_from_slice.ensures.after in
    let len = c.copy_from_slice.ensures.len in
    (c.if-count-most.false, record { one_more = refl; front = search (rules, overwrites); back = search (rules, overwrites) })
