-- The farthest source of a target, as a fold over the sources.
use Rattle.std.specs.Prelude.{ℕ, Bool, not, ◌&&◌, cond, List, ltb, eqb, get_or, fold}
use Rattle.std.specs.List.{range_with_len}
use Rattle.passes.specs.Forward.{nowhere}
use Rattle.search.specs.declared.far.Far.{Far}

-- no source yet
abbrev pub nobody : Far
nobody = record { value = 0; source = 0 }

-- source u of the target v is at distance d, farther than x
abbrev pub fartherb : (v u d : ℕ) → Far → Bool
fartherb v u d x = not (eqb u v) && not (eqb d nowhere) && ltb x.value d

-- one source u more, at distance d of the target v
abbrev pub farther : (v u d : ℕ) → Far → Far
farther v u d x = cond (fartherb v u d x) (record { value = d; source = u }) x

-- place u of the list is the distance from u to v
abbrev pub far_step : (ds : List ℕ) (v : ℕ) → Far → (u : ℕ) → Far
far_step ds v x u = farther v u (get_or ds u 0) x

-- the farthest of n sources
unfoldable pub farthest_in : (ds : List ℕ) (v n : ℕ) → Far
farthest_in ds v n = fold (far_step ds v) nobody (range_with_len 0 n)
