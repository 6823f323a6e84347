-- The end of the search, or the refusal, as an answer.
use mathlib.Core.Path.{◌≡◌}
use mathlib.Core.List.{[], ◌∷◌}
use Rattle.rules.specs.Figures.{Pairs, Bounds}
use Rattle.rules.specs.Lent.{scratch_places, Wiped}
use Rattle.rules.specs.Table.{table}
use Rattle.figures.specs.Promises.{asked, room, takes, DiameterPromise}
use Rattle.figures.proofs.Answering.{end_fulfils}
use Rattle.figures.proofs.ask.Ask.diameter.Goals as goal

pub returns : goal.returns
unfolding DiameterPromise
returns c =
    let q = asked c.args.self in
    let scratch = c.args.scratch.now in
    let new = c.diameter_end.new.scratch in
    rw c.from.ensures (end_fulfils (table q (takes [] [] (room scratch scratch_places ∷ []))) (Pairs q) (Bounds q) (Wiped scratch new) (new ≡ scratch) c.diameter_end.result c.diameter_end.ensures)
