-- The starred cases hold: computed, and carried over to the definitions.
use Rattle.std.specs.Prelude.{ℕ, suc, ◌≤◌, ◌≡◌, refl, Bool, true, false, ◌&&◌, eqb, leb, ltb}
use Rattle.std.proofs.Common.{ap, subst, arith, eqb-true, leb-true, ltb-true}
use mathlib.Core.List.Memᴰ
use mathlib.Core.List.{List, [], ◌∷◌, Memᴰ}
use Rattle.std.proofs.Math.Option.{Option, none, some}
use Rattle.rules.specs.Words.{things_from}
use Rattle.rules.specs.Clock.{horizon}
use Rattle.rules.specs.Day.{Row, rows_of, own}
use Rattle.rules.specs.Routes.{Dist, unreached, after}
use Rattle.rules.specs.Eccentricity.{Forward, Backward}
use Rattle.rules.specs.Diameter.{Targets, Shown, NoneShown}
use Rattle.rules.specs.Pivots.{Pivot, pivots_of}
use Rattle.rules.specs.Figures.{Pairs, Bounds, JoinedPairs, PivotBounds}
use Rattle.rules.specs.Faultless.{Good, good_none, good_more, Sits}
use Rattle.day.specs.Rows.{soundb, rightb}
use Rattle.day.proofs.Sounding.{sound_of}
use Rattle.passes.specs.Forward.{usable, step, pass, init}
use Rattle.passes.proofs.Laws.Distance.{since, dist, dist_right}
use Rattle.search.specs.Visits.{begun, visited}
use Rattle.search.specs.declared.state.Search.{Search}
use Rattle.search.proofs.Laws.Greatest.{greatest_of, stops, is_value, least_of, ecc_to, ecc_from, not_both, forward_right, backward_right}
use Rattle.search.proofs.Laws.Order.{insert, order, order_right}
use Rattle.search.proofs.Laws.Pairs.{both, pair_of, entry_of, bound_of, pairs_told, any_of, joinb, joined_pair_of, under_of, pivot_bound_of, pivot_bounds_told}
use Rattle.search.proofs.Laws.Visiting.{run}
use Rattle.search.specs.Found.{Right}
use Rattle.search.proofs.Laws.Bounded.{far_of, farthest_of, farthest_joined}
use Rattle.search.proofs.Laws.Searched.{diameter_visited, pivot_diameter_visited}
use Rattle.figures.specs.Starred.{day_d, on_day_d, Case, distances_from_lem, forward, backward, diameter, pivot_diameter_lem, pivot_none, pivot_bound, pivot_targets, From, Holds, Each, starred}

-- equal, for each kind of figure
unfoldable pub same_dist : Dist → Dist → Bool
same_dist unreached unreached = true
same_dist unreached (after e) = false
same_dist (after d) unreached = false
same_dist (after d) (after e) = eqb d e

same_dist_lem : (x y : Dist) → same_dist x y ≡ true → x ≡ y
unfolding same_dist
same_dist_lem unreached unreached e = refl
same_dist_lem unreached (after d) e = not_both e refl
same_dist_lem (after d) unreached e = not_both e refl
same_dist_lem (after d) (after f) e = ap after (eqb-true d f e)

unfoldable pub same_figure : Option ℕ → Option ℕ → Bool
same_figure none none = true
same_figure none (some e) = false
same_figure (some d) none = false
same_figure (some d) (some e) = eqb d e

same_figure_lem : (x y : Option ℕ) → same_figure x y ≡ true → x ≡ y
unfolding same_figure
same_figure_lem none none e = refl
same_figure_lem none (some d) e = not_both e refl
same_figure_lem (some d) none e = not_both e refl
same_figure_lem (some d) (some f) e = ap some (eqb-true d f e)

unfoldable pub same_stops : List ℕ → List ℕ → Bool
same_stops [] [] = true
same_stops [] (v ∷ vs) = false
same_stops (u ∷ us) [] = false
same_stops (u ∷ us) (v ∷ vs) = eqb u v && same_stops us vs

same_stops_lem : (us vs : List ℕ) → same_stops us vs ≡ true → us ≡ vs
unfolding same_stops
same_stops_lem [] [] e = refl
same_stops_lem [] (v ∷ vs) e = not_both e refl
same_stops_lem (u ∷ us) [] e = not_both e refl
same_stops_lem (u ∷ us) (v ∷ vs) e = let a = both (eqb u v) (same_stops us vs) e in cc (eqb-true u v a.0, same_stops_lem us vs a.1)

-- a state of a search has this value, pair and count; or none and this count
unfoldable pub shows : (d u v k : ℕ) → Search → Bool
shows d u v k st = ltb 0 d && (eqb st.best d && (eqb st.source u && (eqb st.target v && eqb st.visits k)))

shown_so : {Pair : ℕ → ℕ → ℕ → Type 0} {Bound : ℕ → ℕ → Type 0} (d u v k : ℕ) (st : Search) → Right Pair Bound st → shows d u v k st ≡ true → Shown Pair Bound d u v k
unfolding shows
shown_so {Pair} {Bound} d u v k st r e =
    let a = both (ltb 0 d) _ e in
    let b = both (eqb st.best d) _ a.1 in
    let c = both (eqb st.source u) _ b.1 in
    let f = both (eqb st.target v) (eqb st.visits k) c.1 in
    let best : st.best ≡ d = eqb-true st.best d b.0 in
    let source : st.source ≡ u = eqb-true st.source u c.0 in
    let target : st.target ≡ v = eqb-true st.target v f.0 in
    let visits : st.visits ≡ k = eqb-true st.visits k f.1 in
    rw (best, source, target, visits) at (r.shown (λ z. omega (arith, ltb-true 0 d a.0)))

unfoldable pub shows_none : (k : ℕ) → Search → Bool
shows_none k st = eqb st.best 0 && eqb st.visits k

none_so : {Pair : ℕ → ℕ → ℕ → Type 0} {Bound : ℕ → ℕ → Type 0} (k : ℕ) (st : Search) → Right Pair Bound st → shows_none k st ≡ true → NoneShown Pair Bound k
unfolding shows_none
none_so k st r e =
    let a = both (eqb st.best 0) (eqb st.visits k) e in
    let visits : st.visits ≡ k = eqb-true st.visits k a.1 in
    rw visits at (r.none_shown (eqb-true st.best 0 a.0))

-- the rows are good, and start at last or later
unfoldable pub goodb : (n last : ℕ) → List Row → Bool
goodb n last [] = true
goodb n last (r ∷ rs) = rightb n last r && goodb n r.start rs

good_from : (n last : ℕ) (rs : List Row) → goodb n last rs ≡ true → Good n rs × ((q : Row) → Memᴰ q rs → last ≤ q.start)
unfolding goodb
good_from n last [] e = (good_none, λ q m. absurd (Memᴰ.not-nil m))
good_from n last (r ∷ rs) e =
    let b = both (rightb n last r) _ e in
    let c = both (leb last r.start) (soundb n r) b.0 in
    let k = good_from n r.start rs b.1 in
    (good_more (sound_of n r c.1) k.1 k.0, cover (leb-true _ _ c.0) k.1)
  where
    cover : last ≤ r.start → ((q : Row) → Memᴰ q rs → r.start ≤ q.start) → (q : Row) → Memᴰ q (r ∷ rs) → last ≤ q.start
    cover l k q (Memᴰ.head e) = rw e l
    cover l k q (Memᴰ.tail m) = omega (arith, k q m)

-- the pivots sit within the stops and the interval
unfoldable pub sitsb : (n A W : ℕ) → List Pivot → Bool
sitsb n A W [] = true
sitsb n A W (p ∷ ps) = ltb p.stop n && (leb A p.reading && (leb p.reading W && sitsb n A W ps))

sits_of : (n A W : ℕ) (ps : List Pivot) → sitsb n A W ps ≡ true → (p : Pivot) → Memᴰ p ps → Sits n A W p
unfolding sitsb
sits_of n A W [] e p m = absurd (Memᴰ.not-nil m)
sits_of n A W (q ∷ ps) e p m =
    let b = both (ltb q.stop n) _ e in
    let c = both (leb A q.reading) _ b.1 in
    let d = both (leb q.reading W) (sitsb n A W ps) c.1 in
    go (record { below = ltb-true _ _ b.0; not_before = leb-true _ _ c.0; not_after = leb-true _ _ d.0 }) (sits_of n A W ps d.1) m
  where
    go : Sits n A W q → ((p : Pivot) → Memᴰ p ps → Sits n A W p) → Memᴰ p (q ∷ ps) → Sits n A W p
    go s r (Memᴰ.head x) = rw x s
    go s r (Memᴰ.tail x) = r p x

-- the test of a case

unfoldable pub rows_d : ℕ → List Row
rows_d asker = own asker (rows_of day_d)

-- the searches on day D

unfoldable pub diameter_d : (asker A W : ℕ) → Search
diameter_d asker A W = run (bound_of (rows_d asker) A W) (farthest_of (rows_d asker) A W 5) (order (bound_of (rows_d asker) A W) 5) begun

unfoldable pub pivots_d : (asker A W : ℕ) → List ℕ → Search
pivots_d asker A W ps =
    run (pivot_bound_of (rows_d asker) A W 5 (pivots_of ps)) (farthest_joined (rows_d asker) A W 5 (pivots_of ps)) (order (pivot_bound_of (rows_d asker) A W 5 (pivots_of ps)) 5) begun

-- the rows are good, and A to W is an interval
unfoldable pub fits : (asker A W : ℕ) → Bool
fits asker A W = goodb 5 0 (rows_d asker) && (leb A W && leb W horizon)

unfoldable pub along : (ℕ → Dist) → ℕ → List Dist → Bool
along f v [] = true
along f v (d ∷ ds) = same_dist (f v) d && along f (suc v) ds

unfoldable pub test : Case → Bool
test (distances_from_lem asker A W u ds) = fits asker A W && (ltb u 5 && along (dist (rows_d asker) A W 5 u) 0 ds)
test (forward asker A W u x) = fits asker A W && (ltb u 5 && same_figure (ecc_from (pair_of (rows_d asker) A W 5) 5 u) x)
test (backward asker A W v x) = fits asker A W && (ltb v 5 && same_figure (ecc_to (pair_of (rows_d asker) A W 5) 5 v) x)
test (diameter asker A W d u v k) = fits asker A W && shows d u v k (diameter_d asker A W)
test (pivot_diameter_lem asker A W ps d u v k) =
    fits asker A W && (sitsb 5 A W (pivots_of ps)
    && shows d u v k (pivots_d asker A W ps))
test (pivot_none asker A W ps k) =
    fits asker A W && (sitsb 5 A W (pivots_of ps)
    && shows_none k (pivots_d asker A W ps))
test (pivot_bound asker A W ps v b) =
    fits asker A W && (sitsb 5 A W (pivots_of ps) && (ltb v 5 && same_figure (pivot_bound_of (rows_d asker) A W 5 (pivots_of ps) v) (some b)))
test (pivot_targets asker A W ps vs) =
    fits asker A W && (sitsb 5 A W (pivots_of ps) && same_stops (order (pivot_bound_of (rows_d asker) A W 5 (pivots_of ps)) 5) vs)

pub record Fits (asker A W : ℕ) : Type 0 where
  pub good : Good 5 (rows_d asker)
  pub aw : A ≤ W
  pub wh : W ≤ horizon

fits_of : (asker A W : ℕ) → fits asker A W ≡ true → Fits asker A W
unfolding fits
fits_of asker A W e =
    let a = both (goodb 5 0 (rows_d asker)) _ e in
    let b = both (leb A W) (leb W horizon) a.1 in
    record { good = (good_from 5 0 (rows_d asker) a.0).0; aw = leb-true A W b.0; wh = leb-true W horizon b.1 }

along_of : (Is : ℕ → Dist → Type 0) (f : ℕ → Dist) → ((v : ℕ) → Is v (f v)) → (v : ℕ) (ds : List Dist) → along f v ds ≡ true → From Is v ds
unfolding along
along_of Is f h v [] e = tt
along_of Is f h v (d ∷ ds) e =
    let a = both (same_dist (f v) d) _ e in (subst (Is v) (same_dist_lem (f v) d a.0) (h v), along_of Is f h (suc v) ds a.1)

diameter_right : (asker A W : ℕ) → Fits asker A W → Right (Pairs (on_day_d asker A W)) (Bounds (on_day_d asker A W)) (diameter_d asker A W)
unfolding rows_d diameter_d
diameter_right asker A W f = diameter_visited (rows_d asker) A W 5 f.good f.aw f.wh

pivots_right : (asker A W : ℕ) (ps : List ℕ) → Fits asker A W → ((p : Pivot) → Memᴰ p (pivots_of ps) → Sits 5 A W p)
    → Right (JoinedPairs (on_day_d asker A W) ps) (PivotBounds (on_day_d asker A W) ps) (pivots_d asker A W ps)
unfolding rows_d pivots_d
pivots_right asker A W ps f s = pivot_diameter_visited (rows_d asker) A W 5 f.good f.aw f.wh (pivots_of ps) s

pub holds : (c : Case) → test c ≡ true → Holds c
unfolding test rows_d
holds (distances_from_lem asker A W u ds) e =
    let a = both (fits asker A W) _ e in
    let b = both (ltb u 5) _ a.1 in
    let f : Fits asker A W = fits_of asker A W a.0 in
    along_of _ (dist (rows_d asker) A W 5 u) (dist_right (rows_d asker) A W 5 u f.good (ltb-true u 5 b.0) f.aw f.wh) 0 ds b.1
holds (forward asker A W u x) e =
    let a = both (fits asker A W) _ e in
    let b = both (ltb u 5) _ a.1 in
    let f : Fits asker A W = fits_of asker A W a.0 in
    subst (Forward (Pairs (on_day_d asker A W)) u) (same_figure_lem _ x b.1)
    (forward_right 5 (pair_of (rows_d asker) A W 5) (pairs_told (rows_d asker) A W 5 f.good f.aw f.wh) u (ltb-true u 5 b.0))
holds (backward asker A W v x) e =
    let a = both (fits asker A W) _ e in
    let b = both (ltb v 5) _ a.1 in
    let f : Fits asker A W = fits_of asker A W a.0 in
    subst (Backward (Pairs (on_day_d asker A W)) v) (same_figure_lem _ x b.1)
    (backward_right 5 (pair_of (rows_d asker) A W 5) (pairs_told (rows_d asker) A W 5 f.good f.aw f.wh) v (ltb-true v 5 b.0))
holds (diameter asker A W d u v k) e =
    let a = both (fits asker A W) _ e in
    shown_so d u v k (diameter_d asker A W) (diameter_right asker A W (fits_of asker A W a.0)) a.1
holds (pivot_diameter_lem asker A W ps d u v k) e =
    let a = both (fits asker A W) _ e in
    let b = both (sitsb 5 A W (pivots_of ps)) _ a.1 in
    shown_so d u v k (pivots_d asker A W ps) (pivots_right asker A W ps (fits_of asker A W a.0) (sits_of 5 A W (pivots_of ps) b.0)) b.1
holds (pivot_none asker A W ps k) e =
    let a = both (fits asker A W) _ e in
    let b = both (sitsb 5 A W (pivots_of ps)) _ a.1 in
    none_so k (pivots_d asker A W ps) (pivots_right asker A W ps (fits_of asker A W a.0) (sits_of 5 A W (pivots_of ps) b.0)) b.1
holds (pivot_bound asker A W ps v b) e =
    let x = both (fits asker A W) _ e in
    let y = both (sitsb 5 A W (pivots_of ps)) _ x.1 in
    let z = both (ltb v 5) _ y.1 in
    let f : Fits asker A W = fits_of asker A W x.0 in
    (pivot_bounds_told (rows_d asker) A W 5 f.good f.aw f.wh (pivots_of ps) (sits_of 5 A W (pivots_of ps) y.0)).holds v b (ltb-true v 5 z.0) (same_figure_lem _ (some b) z.1)
holds (pivot_targets asker A W ps vs) e =
    let x = both (fits asker A W) _ e in
    let y = both (sitsb 5 A W (pivots_of ps)) _ x.1 in
    let f : Fits asker A W = fits_of asker A W x.0 in
    subst (Targets (PivotBounds (on_day_d asker A W) ps)) (same_stops_lem _ vs y.1)
    (order_right 5 (pivot_bound_of (rows_d asker) A W 5 (pivots_of ps)) (pivot_bounds_told (rows_d asker) A W 5 f.good f.aw f.wh (pivots_of ps) (sits_of 5 A W (pivots_of ps) y.0)))

unfoldable pub test_all : List Case → Bool
test_all [] = true
test_all (c ∷ cs) = test c && test_all cs

each : (cs : List Case) → test_all cs ≡ true → Each cs
unfolding test_all
each [] e = tt
each (c ∷ cs) e = let a = both (test c) (test_all cs) e in (holds c a.0, each cs a.1)

computed : test_all starred ≡ true
unfolding test_all test fits along rows_d day_d things_from own goodb soundb sitsb pivots_of same_dist same_figure same_stops shows shows_none diameter_d pivots_d dist since pass step usable init pair_of entry_of bound_of any_of joinb joined_pair_of under_of pivot_bound_of greatest_of stops insert order is_value least_of ecc_to ecc_from far_of run visited
computed = refl

pub starred_hold : Each starred
starred_hold = each starred computed
