-- The end of the search, or the refusal, as an answer.
use mathlib.Core.Path.{◌≡◌}
use mathlib.Core.List.{[], ◌∷◌}
use Rattle.rules.specs.Figures.{JoinedPairs, PivotBounds}
use Rattle.rules.specs.Lent.{scratch_places, Wiped}
use Rattle.rules.specs.Table.{table}
use Rattle.figures.specs.Promises.{asked, room, takes, PivotDiameterPromise}
use Rattle.figures.proofs.Answering.{end_fulfils}
use Rattle.figures.proofs.ask.Ask.pivot_diameter.Goals as goal

pub returns : goal.returns
unfolding PivotDiameterPromise
returns c =
    let q = asked c.args.self in
    let scratch = c.args.scratch.now in
    let new = c.pivot_diameter_end.new.scratch in
    rw c.from.ensures (end_fulfils (table q (takes [] c.args.pivots.now (room scratch scratch_places ∷ []))) (JoinedPairs q c.args.pivots.now) (PivotBounds q c.args.pivots.now) (Wiped scratch new) (new ≡ scratch) c.pivot_diameter_end.result c.pivot_diameter_end.ensures)
