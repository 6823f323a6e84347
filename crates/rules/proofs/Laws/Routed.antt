-- A pair that counts has a route; and where the table is clear, a pair that does not count has none and is not joined.
use Rattle.std.specs.Prelude.{ℕ, ◌-◌, ◌<◌, ◌≡◌, refl, ◌≢◌}
use Rattle.std.proofs.Common.{subst, arith}
use mathlib.Core.List.{Memᴰ}
use Rattle.rules.specs.Day.{Row, arrival, Day, Ask, asker's_day}
use Rattle.rules.specs.Routes.{Route, ride, onto, Compatible, Earliest, after, itself, reached}
use Rattle.rules.specs.Pivots.{pivots_of, Joined}
use Rattle.rules.specs.Table.{Takes, table, Clear}
use Rattle.rules.specs.Figures.{Pairs, JoinedPairs}
use Rattle.rules.proofs.Laws.Good.{none_if_no_least, good_sound}
use Rattle.rules.proofs.Laws.Joined.{joins_has_route}
use Rattle.rules.specs.Faultless.{Sits}
use Rattle.rules.proofs.Laws.Decided.{Accepted, accepted}

pub first_row : {day : Day} {f l : Row} → Route day f l → Memᴰ f day.rows
first_row (ride m) = m
first_row (onto m w p) = m

pub last_row : {day : Day} {f l : Row} → Route day f l → Memᴰ l day.rows
last_row (ride m) = m
last_row (onto m w p) = last_row p

pub counted_has_route : (q : Ask) {u v d : ℕ} → Pairs q u v d → Compatible (asker's_day q) q.A q.W u v
counted_has_route q {u} {v} p = go p.distance
  where
    go : {c : ℕ} → Earliest (asker's_day q) q.A q.W u v (after c) → Compatible (asker's_day q) q.A q.W u v
    go (itself e) = absurd (p.differ e)
    go (reached ne l) = l.holds.0

module _ (q : Ask) (t : Takes) (clear : Clear (table q t)) where
  good : Accepted q t
  good = accepted q t clear

  source_below : {u v : ℕ} → Compatible (asker's_day q) q.A q.W u v → u < q.n
  source_below r = subst (λ (x : ℕ). x < q.n) r.leaves (good_sound good.good r.first (first_row r.route)).from_below

  target_below : {u v : ℕ} → Compatible (asker's_day q) q.A q.W u v → v < q.n
  target_below r = subst (λ (x : ℕ). x < q.n) r.enters (good_sound good.good r.last (last_row r.route)).to_below

  -- a pair that does not count has no route
  pub uncounted_has_no_route : (u v : ℕ) → u ≢ v → ((d : ℕ) → Pairs q u v d → ⊥) → Compatible (asker's_day q) q.A q.W u v → ⊥
  uncounted_has_no_route u v ne uncounted r =
      none_if_no_least (λ c. (s : Compatible (asker's_day q) q.A q.W u v) × (arrival s.last - q.A ≡ c))
      (λ d l. uncounted d (record { source_below = omega (arith, source_below r); target_below = omega (arith, target_below r); differ = ne; distance = reached ne l }))
      (arrival r.last - q.A) (r, refl)

  -- nor is it joined
  pub uncounted_unjoined : (u v : ℕ) → ((d : ℕ) → JoinedPairs q t.pivots u v d → ⊥) → Joined (asker's_day q) q.A q.W (pivots_of t.pivots) u v → ⊥
  uncounted_unjoined u v uncounted j =
      let s : Sits q.n q.A q.W j.pivot = good.sit j.pivot j.listed in
      uncounted_has_no_route u v j.joins.differ (λ d p. uncounted d (p, j)) (joins_has_route s.not_before s.not_after j.joins)
