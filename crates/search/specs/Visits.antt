-- The search as its state goes from visit to visit.
use Rattle.std.specs.Prelude.{ℕ, zero, suc, ◌+◌, Bool, cond, List, leb}
use Rattle.std.specs.Option.{option_map_or}
use Rattle.search.specs.declared.far.Far.{Far}
use Rattle.search.specs.declared.targets.Place.{Place}
use Rattle.search.specs.declared.state.Search.{Search}
use Rattle.search.specs.Targets.{next_in}

-- before all visits
abbrev pub begun : Search
begun = record { best = 0; source = 0; target = 0; visits = 0 }

-- the state after a visit of v, whose farthest source is x
unfoldable pub visited : (v : ℕ) → Far → Search → Search
visited v x st =
    cond (leb x.value st.best)
    (record st { visits = st.visits + 1 })
    (record { best = x.value; source = x.source; target = v; visits = st.visits + 1 })

-- the search stops at a target whose bound is not greater than the best value
abbrev pub stops_at : (bound best : ℕ) → Bool
stops_at bound best = leb bound best

-- at most k visits more, of the targets after `last`, or until no target is left; far v is the farthest source of v
unfoldable pub searched : (far : ℕ → Far) (bs : List ℕ) (n k : ℕ) (last : Place) → Search → Search
searched far bs n zero last st = st
searched far bs n (suc k) last st =
    option_map_or (λ p. cond (stops_at p.bound.0 st.best) st (searched far bs n k p (visited p.stop (far p.stop) st))) (next_in bs last n) st
