-- The greatest of the numbers that the pivots have for the stop, of those that are reached.
use Rattle.std.proofs.Common.{rules, ◌∙◌, ap, sym, not, eqb, get_or, unwrap_or}
use Rattle.std.proofs.lemmas.Iterator.{YieldsList-from_map, YieldsList-from_slice}
use Rattle.std.proofs.lemmas.Iterator.Consumers.{max_from_yields_List, YieldsList-at, YieldsList-from_filter}
use Rattle.std.proofs.lemmas.Iterator.Adapters.{option_map_id}
use Rattle.passes.specs.Forward.{nowhere}
use Rattle.search.specs.Pivots.{bound_under}
use Rattle.search.proofs.pivots.bound_under.Goals as goal

pub returns : goal.returns
unfolding bound_under
returns c =
    c.unwrap_or.ensures
    ∙ ap (λ o. unwrap_or o nowhere)
    (sym (option_map_id c.max.result)
    ∙ max_from_yields_List c.filter.result c.max.result c.max.ensures.ran
    (YieldsList-from_filter _ (λ x. not (eqb x nowhere))
    (YieldsList-at c.filter.ensures.source
    (YieldsList-from_map _ (λ p. get_or p.onward c.args.v 0)
    (YieldsList-at c.map.ensures.source (YieldsList-from_slice c.args.pivots.now (search rules)))
    c.map.ensures.closure (λ x r q k. search rules)))
    c.filter.ensures.closure (λ x b q k. search rules)))
