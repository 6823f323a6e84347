-- The next target: the first, in the order of targets, of the stops that come after the last.
use Rattle.std.specs.Prelude.{ℕ, Bool, not, ◌&&◌, List, eqb, get_or, map, filter, Option}
use Rattle.std.specs.List.{range_with_len, reduce}
use Rattle.std.specs.declared.cmp.Ordering.{Ordering}
use Rattle.std.specs.Ordering.{nat_cmp, ordering_then, is_lt, min_by_ordering}
use Rattle.passes.specs.Forward.{nowhere}
use Rattle.search.specs.declared.targets.Place.{Place}

-- the place before all targets
abbrev pub before_all : Place
before_all = record { bound = record { 0 = nowhere }; stop = 0 }

-- the order of targets: by falling bound, then rising number
abbrev pub in_order : (p q : Place) → Ordering
in_order p q = ordering_then (nat_cmp q.bound.0 p.bound.0) (nat_cmp p.stop q.stop)

-- whether p is a target that comes after `last`
unfoldable pub afterb : (last p : Place) → Bool
afterb last p = not (eqb p.bound.0 nowhere) && is_lt (in_order last p)

-- the one that comes first
abbrev pub first_of : (p q : Place) → Place
first_of p q = min_by_ordering (in_order p q) p q

-- stop i with its bound, which stands at place i of the list
abbrev pub place_in : List ℕ → ℕ → Place
place_in bs i = record { bound = record { 0 = get_or bs i 0 }; stop = i }

-- the next target of n stops
unfoldable pub next_in : (bs : List ℕ) (last : Place) (n : ℕ) → Option Place
next_in bs last n = reduce first_of (filter (afterb last) (map (place_in bs) (range_with_len 0 n)))
