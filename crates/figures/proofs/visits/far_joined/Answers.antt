-- The sweep fills the front of the room, unjoined sources are struck out there, and the farthest is found.
use lib.ListN.{drop}
use Prim.Native.Nat.{ℕ}
use native.Mathlib.Omega.{arith}
use mathlib.Core.Path.{ap, ◌∙◌}
use mathlib.Core.List.{List}
use Rattle.passes.specs.Legs.{legs_in}
use Rattle.passes.specs.Backward.{distances_to}
use Rattle.passes.proofs.Laws.Backward.{length_distances}
use Rattle.rules.proofs.Laws.Written.{length_things}
use Rattle.search.specs.Farthest.{farthest_in}
use Rattle.search.specs.Pivots.{kept_at, kept_joined}
use Rattle.figures.proofs.Laying.{front_part}
use Rattle.figures.proofs.Joining.{kept_front}
use Rattle.figures.proofs.visits.far_joined.Goals as goal

pub returns : goal.returns
returns c =
    let args = c.args in
    let pivots = args.pivots.now in
    let ls = legs_in args.linked.now.legs.now in
    let ds = distances_to args.target ls args.n 0 in
    let one = c.to_target.new.out in
    let two = c.keep_joined.new.out in
    let part = front_part (kept_joined pivots args.n args.target one) (drop args.n one) two args.n args.n (omega arith) (length_things (kept_at pivots args.target one) args.n 0) c.keep_joined.ensures in
    let kept = ap (kept_joined pivots args.n args.target) c.to_target.ensures ∙ kept_front pivots args.n args.target ds _ (length_distances args.target ls args.n 0) in
    c.farthest.ensures ∙ ap (λ (l : List ℕ). farthest_in l args.target args.n) (part ∙ kept)
