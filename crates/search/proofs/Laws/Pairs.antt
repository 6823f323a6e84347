-- Pairs with their distances, and bounds, computed: pairs by passes, bounds from the rows or from the pivots.
use Rattle.std.specs.Prelude.{ℕ, ◌+◌, ◌-◌, ◌≤◌, ◌<◌, ◌≡◌, ◌≢◌, ◌⊎◌, Bool, ◌&&◌, ◌||◌, eqb, leb}
use Rattle.std.proofs.Math.Path.{refl, sym}
use Rattle.std.proofs.Common.{ap, subst, inl, inr, arith}
use Rattle.std.proofs.Math.Bool.{true, false, cond}
use mathlib.Core.List.{List, [], ◌∷◌, Memᴰ}
use Rattle.std.proofs.Math.Option.{Option, none, some}
use borrow.Author.Tests.{eqb-true, eqb-false, eq-eqb, ne_eqb, leb-true, le-leb}
use Rattle.rules.specs.Words.{Greatest, GreatestIfAny}
use Rattle.rules.specs.Clock.{horizon}
use Rattle.rules.specs.Day.{Row, arrival}
use Rattle.rules.specs.Routes.{Compatible, Dist, unreached, after, Earliest, itself, reached, no_route}
use Rattle.rules.specs.Diameter.{Entry, LatestEntry}
use Rattle.rules.specs.Pivots.{Pivot, Joined, Under, LatestUnder}
use Rattle.rules.proofs.Laws.Single.{if_any_single, distance_single}
use Rattle.rules.proofs.Laws.Good.{good_sound}
use Rattle.rules.specs.Faultless.{Good, Sits}
use Rattle.rules.proofs.Laws.Routed.{last_row}
use Rattle.passes.specs.Days.{rows_day}
use Rattle.passes.proofs.Laws.Distance.{dist, dist_right}
use Rattle.search.proofs.Laws.Greatest.{greatest_of, greatest_of_all, Has, TellsPairs, if_any_iff, not_none, some_same, not_both}
use Rattle.search.proofs.Laws.Order.{TellsBounds}
use Rattle.search.specs.Found.{ReachedPairs, ReachedJoined}

-- a distance that counts, or none
abbrev pub if_reached : Dist → Option ℕ
if_reached unreached = none
if_reached (after d) = some d

-- the distance of a pair of different stops
unfoldable pub pair_of : (rs : List Row) (A W n u v : ℕ) → Option ℕ
pair_of rs A W n u v = let d = if_reached (dist rs A W n u v) in cond (eqb u v) none d

-- what a row gives to the bound of v
unfoldable pub entry_of : (A W v : ℕ) → Row → Option ℕ
entry_of A W v r = cond (eqb r.to v && (leb A r.start && leb (arrival r) W)) (some (arrival r - A)) none

-- the latest of them
unfoldable pub bound_of : (rs : List Row) (A W v : ℕ) → Option ℕ
bound_of rs A W v = greatest_of (entry_of A W v) rs

-- a greatest figure is what is computed
figure_is : (P : ℕ → Type 0) (o : Option ℕ) (b : ℕ) → GreatestIfAny P o → Greatest P b → o ≡ some b
figure_is P o b h k = if_any_single P o (some b) h k

is_figure : (P : ℕ → Type 0) (o : Option ℕ) (b : ℕ) → GreatestIfAny P o → o ≡ some b → Greatest P b
is_figure P o b h e = subst (GreatestIfAny P) e h

three : (a b c : Bool) {x : Option ℕ} {d : ℕ} → cond (a && (b && c)) x none ≡ some d → (a ≡ true) × (b ≡ true) × (c ≡ true) × (x ≡ some d)
three true true true e = (refl, refl, refl, e)
three true true false e = not_none refl e
three true false c e = not_none refl e
three false b c e = not_none refl e

module _ (rs : List Row) (A W n : ℕ) (g : Good n rs) (aw : A ≤ W) (wh : W ≤ horizon) where
  pair_in : (u v d : ℕ) → ReachedPairs rs A W n u v d → (u < n) × (v < n) × (pair_of rs A W n u v ≡ some d)
  unfolding pair_of
  pair_in u v d p = (
    p.source_below,
    p.target_below,
    rw (ne_eqb u v p.differ, distance_single (dist_right rs A W n u g p.source_below aw wh v) p.distance),
  )

  pair_out : (u v d : ℕ) → u < n → v < n → pair_of rs A W n u v ≡ some d → ReachedPairs rs A W n u v d
  unfolding pair_of
  pair_out u v d ul vl e = go (eqb u v) refl e
    where
      far : u ≢ v → (x : Dist) → Earliest (rows_day rs) A W u v x → if_reached x ≡ some d → ReachedPairs rs A W n u v d
      far ne unreached h k = not_none refl k
      far ne (after y) h k = let same : y ≡ d = some_same refl k in record { source_below = ul; target_below = vl; differ = ne; distance = rw (← same) h }

      go : (b : Bool) → eqb u v ≡ b → cond b none (if_reached (dist rs A W n u v)) ≡ some d → ReachedPairs rs A W n u v d
      go true x k = not_none refl k
      go false x k = far (eqb-false u v x) (dist rs A W n u v) (dist_right rs A W n u g ul aw wh v) k

  pub pairs_told : TellsPairs n (pair_of rs A W n) (ReachedPairs rs A W n)
  pairs_told = record { told = pair_in; holds = pair_out }

  pub bound_greatest : (v : ℕ) → GreatestIfAny (Entry (rows_day rs) A W v) (bound_of rs A W v)
  unfolding bound_of entry_of
  bound_greatest v = if_any_iff (Has (entry_of A W v) rs) (Entry (rows_day rs) A W v) to back (greatest_of (entry_of A W v) rs) (greatest_of_all (entry_of A W v) rs)
    where
      open_row : (r : Row) (b : ℕ) → entry_of A W v r ≡ some b → (r.to ≡ v) × (A ≤ r.start) × (arrival r ≤ W) × (b ≡ arrival r - A)
      open_row r b e =
          let t = three (eqb r.to v) (leb A r.start) (leb (arrival r) W) e in
          (eqb-true r.to v t.0, leb-true A r.start t.1, leb-true (arrival r) W t.2, sym (some_same refl t.3))

      shut_row : (r : Row) (b : ℕ) → r.to ≡ v → A ≤ r.start → arrival r ≤ W → b ≡ arrival r - A → entry_of A W v r ≡ some b
      shut_row r b x y z w = rw (eq-eqb r.to v x, le-leb A r.start y, le-leb (arrival r) W z, w)

      to : (b : ℕ) → Has (entry_of A W v) rs b → Entry (rows_day rs) A W v b
      to b h =
          let t = open_row h.0 b h.2 in
          record { row = h.0; listed = h.1; enters = t.0; begins = t.1; ends = t.2; bound = t.3 }

      back : (b : ℕ) → Entry (rows_day rs) A W v b → Has (entry_of A W v) rs b
      back b t = (t.row, t.listed, shut_row t.row b t.enters t.begins t.ends t.bound)

  bound_in : (v b : ℕ) → LatestEntry (rows_day rs) A W v b → (v < n) × (bound_of rs A W v ≡ some b)
  bound_in v b h = (
    subst (λ (x : ℕ). x < n) h.holds.enters (good_sound g h.holds.row h.holds.listed).to_below,
    figure_is (Entry (rows_day rs) A W v) (bound_of rs A W v) b (bound_greatest v) h,
  )

  pub bounds_told : TellsBounds n (bound_of rs A W) (LatestEntry (rows_day rs) A W)
  bounds_told = record { told = bound_in; holds = λ v b l e. is_figure (Entry (rows_day rs) A W v) (bound_of rs A W v) b (bound_greatest v) e }

-- the same under pivots

-- whether a distance is reached
abbrev pub reachedb : Dist → Bool
reachedb unreached = false
reachedb (after d) = true

-- whether the test holds of some pivot
unfoldable pub any_of : (Pivot → Bool) → List Pivot → Bool
any_of f [] = false
any_of f (p ∷ ps) = f p || any_of f ps

-- whether the pivot joins u to v
unfoldable pub joinb : (rs : List Row) (A W n u v : ℕ) → Pivot → Bool
joinb rs A W n u v p = reachedb (dist rs A p.reading n u p.stop) && reachedb (dist rs p.reading W n p.stop v)

-- the distance of a pair that some pivot joins
unfoldable pub joined_pair_of : (rs : List Row) (A W n : ℕ) → List Pivot → (u v : ℕ) → Option ℕ
joined_pair_of rs A W n pivots u v = let d = pair_of rs A W n u v in cond (any_of (joinb rs A W n u v) pivots) d none

-- the bound that a pivot at s gives to a stop that it reaches
abbrev pub from_pivot : (A s : ℕ) → Dist → Option ℕ
from_pivot A s unreached = none
from_pivot A s (after d) = some (s + d - A)

-- the bound of v under one pivot
unfoldable pub under_of : (rs : List Row) (A W n v : ℕ) → Pivot → Option ℕ
under_of rs A W n v p = from_pivot A p.reading (dist rs p.reading W n p.stop v)

-- the greatest over the pivots
unfoldable pub pivot_bound_of : (rs : List Row) (A W n : ℕ) → List Pivot → ℕ → Option ℕ
pivot_bound_of rs A W n pivots v = greatest_of (under_of rs A W n v) pivots

any_yes : (f : Pivot → Bool) (ps : List Pivot) (p : Pivot) → Memᴰ p ps → f p ≡ true → any_of f ps ≡ true
unfolding any_of
any_yes f (q ∷ ps) p (Memᴰ.head e) h = let k : f q ≡ true = rw e at h in rw k
any_yes f (q ∷ ps) p (Memᴰ.tail m) h = rw (any_yes f ps p m h) (or-true (f q))
  where
    or-true : (b : Bool) → b || true ≡ true
    or-true true = refl
    or-true false = refl
any_yes f [] p x'' h = elim x'' [ ]

of_any : (f : Pivot → Bool) (ps : List Pivot) → any_of f ps ≡ true → (p : Pivot) × Memᴰ p ps × (f p ≡ true)
unfolding any_of
of_any f [] h = not_both h refl
of_any f (q ∷ ps) h = go (f q) refl h (of_any f ps)
  where
    go : (b : Bool) → f q ≡ b → b || any_of f ps ≡ true → (any_of f ps ≡ true → (p : Pivot) × Memᴰ p ps × (f p ≡ true))
        → (p : Pivot) × Memᴰ p (q ∷ ps) × (f p ≡ true)
    go true e x r = (q, Memᴰ.head refl, e)
    go false e x r = let t : (p : Pivot) × Memᴰ p ps × (f p ≡ true) = r x in (t.0, Memᴰ.tail t.1, t.2)

pub both : (a b : Bool) → a && b ≡ true → (a ≡ true) × (b ≡ true)
both true b x = (refl, x)
both false b x = not_both x refl

-- a distance is reached where the stops are one or a route leads there
pub reached_yes : {rs : List Row} {A W u v : ℕ} {x : Dist} → Earliest (rows_day rs) A W u v x → (u ≡ v) ⊎ Compatible (rows_day rs) A W u v → reachedb x ≡ true
reached_yes (itself e) h = refl
reached_yes (reached ne l) h = refl
reached_yes (no_route ne l) (inl e) = absurd (ne e)
reached_yes (no_route ne l) (inr t) = absurd (l t)

pub yes_reached : {rs : List Row} {A W u v : ℕ} {x : Dist} → Earliest (rows_day rs) A W u v x → reachedb x ≡ true → (u ≡ v) ⊎ Compatible (rows_day rs) A W u v
yes_reached (itself e) h = inl e
yes_reached (reached ne l) h = inr l.holds.0
yes_reached (no_route ne l) h = not_both h refl

pub flip : {P : Type 0} {u v : ℕ} → (u ≡ v) ⊎ P → (v ≡ u) ⊎ P
flip (inl e) = inl (sym e)
flip (inr x) = inr x

module _ (rs : List Row) (A W n : ℕ) (g : Good n rs) (aw : A ≤ W) (wh : W ≤ horizon) (pivots : List Pivot) (sit : (p : Pivot) → Memᴰ p pivots → Sits n A W p) where
  pub onward_dist : (p : Pivot) (s : Sits n A W p) (v : ℕ) → Earliest (rows_day rs) p.reading W p.stop v (dist rs p.reading W n p.stop v)
  onward_dist p s v = dist_right rs p.reading W n p.stop g s.below s.not_after wh v

  into_dist : (p : Pivot) (s : Sits n A W p) (u : ℕ) → u < n → Earliest (rows_day rs) A p.reading u p.stop (dist rs A p.reading n u p.stop)
  into_dist p s u l = dist_right rs A p.reading n u g l s.not_before (omega (arith, s.not_after)) p.stop

  joined_yes : (u v : ℕ) → u < n → Joined (rows_day rs) A W pivots u v → any_of (joinb rs A W n u v) pivots ≡ true
  unfolding joinb
  joined_yes u v l j =
      let s : Sits n A W j.pivot = sit j.pivot j.listed in
      any_yes (joinb rs A W n u v) pivots j.pivot j.listed
      (rw (reached_yes (into_dist j.pivot s u l) j.joins.into, reached_yes (onward_dist j.pivot s v) (flip j.joins.onward)))

  yes_joined : (u v : ℕ) → u < n → u ≢ v → any_of (joinb rs A W n u v) pivots ≡ true → Joined (rows_day rs) A W pivots u v
  unfolding joinb
  yes_joined u v l ne e =
      let t = of_any (joinb rs A W n u v) pivots e in
      let s : Sits n A W t.0 = sit t.0 t.1 in
      let b = both (reachedb (dist rs A t.0.reading n u t.0.stop)) (reachedb (dist rs t.0.reading W n t.0.stop v)) t.2 in
      record {
        pivot = t.0;
        listed = t.1;
        joins = record { differ = ne; into = yes_reached (into_dist t.0 s u l) b.0; onward = flip (yes_reached (onward_dist t.0 s v) b.1) };
      }

  joined_pair_in : (u v d : ℕ) → ReachedJoined rs A W n pivots u v d → (u < n) × (v < n) × (joined_pair_of rs A W n pivots u v ≡ some d)
  unfolding joined_pair_of
  joined_pair_in u v d p =
      let i = (pairs_told rs A W n g aw wh).told u v d p.0 in (i.0, i.1, rw (joined_yes u v i.0 p.1) i.2)

  joined_pair_out : (u v d : ℕ) → u < n → v < n → joined_pair_of rs A W n pivots u v ≡ some d → ReachedJoined rs A W n pivots u v d
  unfolding joined_pair_of
  joined_pair_out u v d ul vl e = go (any_of (joinb rs A W n u v) pivots) refl e
    where
      go : (b : Bool) → any_of (joinb rs A W n u v) pivots ≡ b → cond b (pair_of rs A W n u v) none ≡ some d → ReachedJoined rs A W n pivots u v d
      go true x k = let p = (pairs_told rs A W n g aw wh).holds u v d ul vl k in (p, yes_joined u v ul p.differ x)
      go false x k = not_none refl k

  pub joined_pairs_told : TellsPairs n (joined_pair_of rs A W n pivots) (ReachedJoined rs A W n pivots)
  joined_pairs_told = record { told = joined_pair_in; holds = joined_pair_out }

  pub pivot_bound_greatest : (v : ℕ) → GreatestIfAny (λ b. (p : Pivot) × Memᴰ p pivots × Under (rows_day rs) A W v b p) (pivot_bound_of rs A W n pivots v)
  unfolding pivot_bound_of under_of
  pivot_bound_greatest v =
      if_any_iff (Has (under_of rs A W n v) pivots) (λ b. (p : Pivot) × Memᴰ p pivots × Under (rows_day rs) A W v b p)
      (λ b h. (h.0, h.1, to h.0 b (dist rs h.0.reading W n h.0.stop v) (onward_dist h.0 (sit h.0 h.1) v) h.2))
      (λ b h. (h.0, h.1, rw (distance_single (onward_dist h.0 (sit h.0 h.1) v) h.2.reaches) (ap some (sym h.2.bound))))
      (greatest_of (under_of rs A W n v) pivots) (greatest_of_all (under_of rs A W n v) pivots)
    where
      to : (p : Pivot) (b : ℕ) (x : Dist) → Earliest (rows_day rs) p.reading W p.stop v x → from_pivot A p.reading x ≡ some b → Under (rows_day rs) A W v b p
      to p b unreached h e = not_none refl e
      to p b (after d) h e = record { time = d; reaches = h; bound = some_same e refl }

  pivot_bound_in : (v b : ℕ) → LatestUnder (rows_day rs) A W pivots v b → (v < n) × (pivot_bound_of rs A W n pivots v ≡ some b)
  pivot_bound_in v b h =
      (below h.holds.0 (sit h.holds.0 h.holds.1) h.holds.2.reaches, figure_is _ (pivot_bound_of rs A W n pivots v) b (pivot_bound_greatest v) h)
    where
      below : (p : Pivot) {d : ℕ} → Sits n A W p → Earliest (rows_day rs) p.reading W p.stop v (after d) → v < n
      below p s (itself e) = subst (λ (x : ℕ). x < n) e s.below
      below p s (reached ne l) =
          let t : Compatible (rows_day rs) p.reading W p.stop v = l.holds.0 in
          subst (λ (x : ℕ). x < n) t.enters (good_sound g t.last (last_row t.route)).to_below

  pub pivot_bounds_told : TellsBounds n (pivot_bound_of rs A W n pivots) (LatestUnder (rows_day rs) A W pivots)
  pivot_bounds_told = record { told = pivot_bound_in; holds = λ v b l e. is_figure _ (pivot_bound_of rs A W n pivots v) b (pivot_bound_greatest v) e }
