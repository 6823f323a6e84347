-- The fold over the places beside their distances is the fold over the sources.
use Rattle.std.proofs.Common.{rules, ◌∙◌, ℕ, arith, ap, fold}
use Rattle.std.specs.List.{zip, range_with_len}
use Rattle.std.proofs.lemmas.Iterator.{YieldsList-from_slice, YieldsList-from_zip, YieldsList-from_range}
use Rattle.std.proofs.lemmas.Iterator.Consumers.{fold_from_yields_List}
use Rattle.search.specs.declared.far.Far.{Far}
use Rattle.search.specs.Farthest.{nobody, farther, farthest_in}
use Rattle.search.proofs.Laws.Places.{fold_places}
use Rattle.search.proofs.far.farthest.Goals as goal

abbrev step : (target : ℕ) → Far → ℕ × ℕ → Far
step target x p = farther target p.0 p.1 x

pub returns : goal.returns
unfolding farthest_in
returns c =
    fold_from_yields_List _ (step c.args.target) c.default.result c.fold.result c.fold.ensures.ran
    (YieldsList-from_zip (YieldsList-from_range 0 c.args.n c.args.n (search rules) (omega arith)) (YieldsList-from_slice c.args.distances.now (search rules)))
    (λ x p y q k. search rules)
    ∙ (ap (λ x. fold (step c.args.target) x (zip (range_with_len 0 c.args.n) c.args.distances.now)) (search rules)
    ∙ fold_places c.args.distances.now (step c.args.target) nobody c.args.n c.requires.0)
