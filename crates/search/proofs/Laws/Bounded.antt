-- A pair's distance is at least 1 and at most its target's bound; and each target has a farthest source.
use Rattle.std.specs.Prelude.{ℕ, ◌+◌, ◌-◌, ◌≤◌, ◌<◌, ◌≡◌, refl, ◌≢◌, true}
use Rattle.std.proofs.Common.{sym, ◌∙◌, inl, inr, arith}
use mathlib.Core.List.{List, Memᴰ}
use Rattle.std.proofs.Math.Option.{Option, none, some}
use Rattle.rules.specs.Words.{Least, Greatest, GreatestIfAny}
use Rattle.rules.specs.Clock.{horizon}
use Rattle.rules.specs.Day.{Row, arrival}
use Rattle.rules.specs.Routes.{Route, ride, onto, Compatible, Dist, unreached, after, Earliest, itself, reached}
use Rattle.rules.specs.Eccentricity.{Backward}
use Rattle.rules.specs.Diameter.{Entry, LatestEntry, counted}
use Rattle.rules.specs.Pivots.{Pivot, Into, Under, LatestUnder}
use Rattle.rules.proofs.Laws.Good.{moves}
use Rattle.rules.specs.Faultless.{Good, Sits}
use Rattle.rules.proofs.Laws.Joined.{join}
use Rattle.rules.proofs.Laws.Routed.{last_row}
use Rattle.passes.specs.Days.{rows_day}
use Rattle.passes.proofs.Laws.Distance.{dist}
use Rattle.search.specs.declared.far.Far.{Far}
use Rattle.search.proofs.Laws.Greatest.{TellsPairs, is_value, least_of, least_below, LeastBelow, is_value_lem, value_is, ecc_to, backward_right, not_both}
use Rattle.search.proofs.Laws.Pairs.{pair_of, joined_pair_of, bound_of, bound_greatest, pivot_bound_of, pivot_bound_greatest, onward_dist, flip, reachedb, reached_yes}
use Rattle.search.specs.Found.{ReachedPairs, ReachedJoined}
use Rattle.search.proofs.Laws.Visiting.{IsFar}

last_start : {rs : List Row} {f l : Row} → Route (rows_day rs) f l → f.start ≤ l.start
last_start (ride m) = omega arith
last_start (onto m w p) = omega (arith, last_start p)

-- the least cost of a route, where the stops differ
least_of_lem : {rs : List Row} {A W u v d : ℕ} → u ≢ v → Earliest (rows_day rs) A W u v (after d) → Least (λ c. (t : Compatible (rows_day rs) A W u v) × (arrival t.last - A ≡ c)) d
least_of_lem ne (itself e) = absurd (ne e)
least_of_lem ne (reached x l) = l

module _ (rs : List Row) (A W n : ℕ) (g : Good n rs) (aw : A ≤ W) (wh : W ≤ horizon) where
  pub pair_positive : (u v d : ℕ) → ReachedPairs rs A W n u v d → 1 ≤ d
  pair_positive u v d p =
      let l = least_of_lem p.differ p.distance in
      let t : Compatible (rows_day rs) A W u v = l.holds.0 in
      omega (arith, l.holds.1, last_start t.route, moves g t.last (last_row t.route), t.begins)

  pub pair_bounded : (u v d : ℕ) → ReachedPairs rs A W n u v d → (b : ℕ) × LatestEntry (rows_day rs) A W v b × (d ≤ b)
  pair_bounded u v d p = go (bound_of rs A W v) (bound_greatest rs A W n g aw wh v)
    where
      l : Least (λ c. (t : Compatible (rows_day rs) A W u v) × (arrival t.last - A ≡ c)) d
      l = least_of_lem p.differ p.distance

      t : Compatible (rows_day rs) A W u v
      t = l.holds.0

      entry : Entry (rows_day rs) A W v d
      entry =
          record {
            row = t.last;
            listed = last_row t.route;
            enters = t.enters;
            begins = omega (arith, last_start t.route, t.begins);
            ends = t.ends;
            bound = sym l.holds.1;
          }

      go : (o : Option ℕ) → GreatestIfAny (Entry (rows_day rs) A W v) o → (b : ℕ) × LatestEntry (rows_day rs) A W v b × (d ≤ b)
      go none h = absurd (h d entry)
      go (some b) h = (b, h, h.greatest d entry)

-- a rider into the pivot's stop by its reading may go on along any route from there
onward_from : {rs : List Row} {A W u v : ℕ} {p : Pivot} → A ≤ p.reading → Into (rows_day rs) A u p
    → (o : Compatible (rows_day rs) p.reading W p.stop v) → (t : Compatible (rows_day rs) A W u v) × (arrival t.last ≡ arrival o.last)
onward_from {rs} {A} {W} {u} {v} {p} a (inl e) o =
    (record { first = o.first; last = o.last; route = o.route; leaves = o.leaves ∙ sym e; enters = o.enters; begins = omega arith; ends = o.ends }, refl)
onward_from {rs} {A} {W} {u} {v} {p} a (inr i) o = (
  record {
    first = i.first;
    last = o.last;
    route = join i.route (record { meets = o.leaves ∙ sym i.enters; waits = omega arith }) o.route;
    leaves = i.leaves;
    enters = o.enters;
    begins = i.begins;
    ends = o.ends;
  },
  refl,
)

module _ (rs : List Row) (A W n : ℕ) (g : Good n rs) (aw : A ≤ W) (wh : W ≤ horizon) (pivots : List Pivot) (sit : (p : Pivot) → Memᴰ p pivots → Sits n A W p) where
  -- the distance is at most the time by way of the pivot
  under_bounds : (u v d : ℕ) (p : Pivot) → Sits n A W p → ReachedPairs rs A W n u v d → Into (rows_day rs) A u p
      → {time : ℕ} → Earliest (rows_day rs) p.reading W p.stop v (after time) → d ≤ p.reading + time - A
  under_bounds u v d p s h (inl e) (itself x) = absurd (h.differ (e ∙ x))
  under_bounds u v d p s h (inr i) (itself x) =
      let t : Compatible (rows_day rs) A W u v = record { first = i.first; last = i.last; route = i.route; leaves = i.leaves; enters = i.enters ∙ x; begins = i.begins; ends = omega (arith, i.ends, s.not_after) } in
      omega (arith, (least_of_lem h.differ h.distance).least (arrival i.last - A) (t, refl), i.ends)
  under_bounds u v d p s h i (reached x l) =
      let o = onward_from s.not_before i l.holds.0 in
      let starts : p.reading ≤ arrival l.holds.0.last = omega (arith, last_start l.holds.0.route, l.holds.0.begins) in
      omega (arith, (least_of_lem h.differ h.distance).least (arrival o.0.last - A) (o.0, refl), o.1, l.holds.1, starts)

  pub joined_bounded : (u v d : ℕ) → ReachedJoined rs A W n pivots u v d → (b : ℕ) × LatestUnder (rows_day rs) A W pivots v b × (d ≤ b)
  joined_bounded u v d h =
      under (dist rs p.reading W n p.stop v) (onward_dist rs A W n g aw wh pivots sit p s v) (reached_yes (onward_dist rs A W n g aw wh pivots sit p s v) (flip h.1.joins.onward))
    where
      p : Pivot
      p = h.1.pivot

      s : Sits n A W p
      s = sit p h.1.listed

      under : (x : Dist) → Earliest (rows_day rs) p.reading W p.stop v x → reachedb x ≡ true → (b : ℕ) × LatestUnder (rows_day rs) A W pivots v b × (d ≤ b)
      under unreached e y = not_both y refl
      under (after time) e y = go (pivot_bound_of rs A W n pivots v) (pivot_bound_greatest rs A W n g aw wh pivots sit v)
        where
          mine : (q : Pivot) × Memᴰ q pivots × Under (rows_day rs) A W v (p.reading + time - A) q
          mine = (p, h.1.listed, record { time = time; reaches = e; bound = refl })

          go : (o : Option ℕ) → GreatestIfAny (λ b. (q : Pivot) × Memᴰ q pivots × Under (rows_day rs) A W v b q) o → (b : ℕ) × LatestUnder (rows_day rs) A W pivots v b × (d ≤ b)
          go none k = absurd (k (p.reading + time - A) mine)
          go (some b) k = (b, k, omega (arith, k.greatest (p.reading + time - A) mine, under_bounds u v d p s h.0 h.1.joins.into e))

-- no source stands as 0
abbrev or_zero : Option ℕ → ℕ
or_zero none = 0
or_zero (some u) = u

-- the farthest source of each target, where f u v is the distance of a pair that counts
unfoldable pub far_of : (ℕ → ℕ → Option ℕ) → ℕ → ℕ → Far
far_of f n v = let d = counted (ecc_to f n v) in record { value = d; source = or_zero (least_of (λ u. is_value d (f u v)) n) }

-- a farthest source of each target of the diameter, and of the pivot-diameter
abbrev pub farthest_of : (rs : List Row) (A W n v : ℕ) → Far
farthest_of rs A W n = far_of (pair_of rs A W n) n

abbrev pub farthest_joined : (rs : List Row) (A W n : ℕ) → List Pivot → (v : ℕ) → Far
farthest_joined rs A W n pivots = far_of (joined_pair_of rs A W n pivots) n

module _ {Pair : ℕ → ℕ → ℕ → Type 0} (n : ℕ) (f : ℕ → ℕ → Option ℕ) (pairs : TellsPairs n f Pair) (positive : (u v d : ℕ) → Pair u v d → 1 ≤ d) where
  pub far_right : (v : ℕ) → v < n → IsFar Pair v (far_of f n v)
  unfolding far_of
  far_right v l = go (ecc_to f n v) (backward_right n f pairs v l)
    where
      source : (d : ℕ) → Greatest (λ d. (u : ℕ) × Pair u v d) d → (o : Option ℕ) → LeastBelow (λ u. is_value d (f u v)) n o → Least (λ u. Pair u v d) (or_zero o)
      source d h none k = let p = pairs.told h.holds.0 v d h.holds.1 in absurd (k h.holds.0 p.0 (value_is d (f h.holds.0 v) p.2))
      source d h (some u) k =
          record {
            holds = pairs.holds u v d k.0 l (is_value_lem d (f u v) k.1);
            least = λ y p. let i = pairs.told y v d p in k.2 y i.0 (value_is d (f y v) i.2);
          }

      go : (o : Option ℕ) → Backward Pair v o → IsFar Pair v (record { value = counted o; source = or_zero (least_of (λ u. is_value (counted o) (f u v)) n) })
      go none h = record { nobody = λ e u d p. h d (u, p); greatest = λ e. absurd (e refl); lowest = λ e. absurd (e refl) }
      go (some d) h =
          record {
            nobody = λ e u c p. omega (arith, positive u v c p, h.greatest c (u, p));
            greatest = λ e. h;
            lowest = λ e. source d h (least_of (λ u. is_value d (f u v)) n) (least_below (λ u. is_value d (f u v)) n);
          }
