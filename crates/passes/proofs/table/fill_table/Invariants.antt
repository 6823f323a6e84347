-- The loop: the stretches so far stand at the front, and the rest is kept.
use Prim.Native.Nat.{◌*◌}
use mathlib.Core.Path.{◌≡◌}
use mathlib.Core.List.{◌++◌}
use lib.ListN.{drop}
use Rattle.passes.specs.Legs.{legs_in}
use Rattle.passes.specs.Forward.{stretches, stretch_of}
use Rattle.passes.proofs.table.fill_table.Given as goal

abbrev pub invariant-loop-u : goal.invariant-loop-u
invariant-loop-u l = l.out ≡ stretches (stretch_of l.n (legs_in l.legs)) l.u ++ drop (l.u * l.n) l.initial.out
