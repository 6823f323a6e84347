-- The search by next targets visits the targets in order, so its state at the end is right.
use Prim.Native.Nat.{ℕ, zero, suc, ◌+◌, ◌-◌, ◌≤◌, ◌<◌}
use Rattle.std.specs.Prelude.{◌≡◌, true, false, Option, Some, None}
use Rattle.std.specs.Option.{option_map_or}
use Rattle.std.proofs.Math.Path.{refl, ap, sym}
use Rattle.std.proofs.Common.{◌∙◌, subst, inl, inr}
use Rattle.std.proofs.Math.Bool.{cond}
use mathlib.Core.List.{List, [], ◌∷◌, Memᴰ}
use native.Mathlib.Omega.{arith}
use Rattle.std.proofs.Math.ListN.{length}
use Rattle.rules.specs.Clock.{horizon}
use Rattle.rules.specs.Day.{Row}
use Rattle.rules.specs.Routes.{Earliest, after, itself, reached}
use Rattle.rules.specs.Diameter.{Before, bound_falls, number_rises, LatestEntry}
use Rattle.rules.specs.Pivots.{Pivot, LatestUnder}
use Rattle.rules.specs.Faultless.{Good, Sits}
use Rattle.rules.proofs.Laws.Order.{Rest, all_left, none_left, next_left}
use Rattle.passes.specs.Forward.{nowhere}
use Rattle.passes.proofs.Laws.Chains.{spans}
use Rattle.passes.specs.Days.{rows_day}
use Rattle.search.specs.declared.far.Far.{Far}
use Rattle.search.specs.declared.targets.Place.{Place}
use Rattle.search.specs.declared.state.Search.{Search}
use Rattle.search.specs.Targets.{before_all, next_in}
use Rattle.search.specs.Visits.{begun, visited, stops_at, searched}
use Rattle.search.proofs.Laws.Greatest.{some_same}
use Rattle.search.proofs.Laws.Order.{order, order_length, order_right, TellsBounds}
use Rattle.search.proofs.Laws.Pairs.{pair_of, pairs_told, bound_of, bounds_told, joined_pair_of, joined_pairs_told, pivot_bound_of, pivot_bounds_told}
use Rattle.search.specs.Found.{ReachedPairs, ReachedJoined, Right}
use Rattle.search.proofs.Laws.Visiting.{IsFar, run, run_right, visit_counts, visit_same}
use Rattle.search.proofs.Laws.Bounded.{pair_positive, pair_bounded, joined_bounded, farthest_of, farthest_joined, far_right}
use Rattle.search.proofs.Laws.Entered.{bound_at}
use Rattle.search.proofs.Laws.Chosen.{BoundIn, After, Left, none_is_left, next_bound, next_after, next_is_head}

-- a search under way, with k of n turns gone: from here it ends as from the beginning
pub record Going (far : ℕ → Far) (bs : List ℕ) (n k : ℕ) (last : Place) (st : Search) : Type 0 where
  pub turns : k ≤ n
  pub count : st.visits ≡ k
  pub leads : searched far bs n (n - k) last st ≡ searched far bs n n before_all begun

pub going_begun : (far : ℕ → Far) (bs : List ℕ) (n : ℕ) → Going far bs n 0 before_all begun
going_begun far bs n = record { turns = omega arith; count = refl; leads = let e : n - 0 ≡ n = omega arith in rw e }

-- one turn of it: no turn is left, or no target; or it stops at the next target; or visits it

module _ {far : ℕ → Far} {bs : List ℕ} {n k : ℕ} {last : Place} {st : Search} (going : Going far bs n k last st) where
  pub turns_over : n ≤ k → searched far bs n n before_all begun ≡ st
  unfolding searched
  turns_over l = sym going.leads ∙ (let e : n - k ≡ 0 = omega arith in rw e)

  module _ (l : k < n) where
    left : n - k ≡ suc (n - (k + 1))
    left = omega arith

    pub targets_over : next_in bs last n ≡ None → searched far bs n n before_all begun ≡ st
    unfolding searched
    targets_over x = sym going.leads ∙ rw (left, x)

    module _ (p : Place) (x : next_in bs last n ≡ Some p) where
      pub stops_there : stops_at p.bound.0 st.best ≡ true → searched far bs n n before_all begun ≡ st
      unfolding searched
      stops_there h = sym going.leads ∙ rw (left, x, h)

      -- with the farthest source itself
      pub going_visit : stops_at p.bound.0 st.best ≡ false → Going far bs n (k + 1) p (visited p.stop (far p.stop) st)
      unfolding searched
      going_visit h =
          record {
            turns = omega arith;
            count = visit_counts p.stop (far p.stop) st ∙ ap (λ (z : ℕ). z + 1) going.count;
            leads = sym visits_so ∙ going.leads;
          }
        where
          visits_so : searched far bs n (n - k) last st ≡ searched far bs n (n - (k + 1)) p (visited p.stop (far p.stop) st)
          visits_so = rw (left, x, h)

      -- with any farthest source of the target
      pub going_on : {Pair : ℕ → ℕ → ℕ → Type 0} (y : Far) → stops_at p.bound.0 st.best ≡ false → IsFar Pair p.stop (far p.stop) → IsFar Pair p.stop y
          → Going far bs n (k + 1) p (visited p.stop y st)
      unfolding searched
      going_on y h f g =
          record {
            turns = omega arith;
            count = visit_counts p.stop y st ∙ ap (λ (z : ℕ). z + 1) going.count;
            leads = sym (visits_same) ∙ going.leads;
          }
        where
          visits_same : searched far bs n (n - k) last st ≡ searched far bs n (n - (k + 1)) p (visited p.stop y st)
          visits_same = rw (left, x, h, visit_same p.stop (far p.stop) y st f g)

pub next_below : (bs : List ℕ) (last : Place) (n : ℕ) (p : Place) → next_in bs last n ≡ Some p → p.stop < n
next_below bs last n p e = (next_bound bs last n p e).0

-- the search is a run over the targets in order

one_bound : (n : ℕ) (bs : List ℕ) (v b c : ℕ) → BoundIn n bs v b → BoundIn n bs v c → b ≡ c
one_bound n bs v b c h k = some_same h.1 k.1

rest_iff : {Bound : ℕ → ℕ → Type 0} (L M : ℕ → Type 0) (vs : List ℕ) → ((v b : ℕ) → Bound v b → L v → M v) → ((v b : ℕ) → Bound v b → M v → L v)
    → Rest Bound L vs → Rest Bound M vs
rest_iff L M vs f g r =
    record {
      sorted = r.sorted;
      members = λ v. (
        λ m. let h = (r.members v).0 m in (f v h.1.0 h.1.1 h.0, h.1),
        λ h. (r.members v).1 (g v h.1.0 h.1.1 h.0, h.1),
      );
    }

after_after : (last p : Place) (w c : ℕ) → After last p.stop p.bound.0 → After p w c → After last w c
after_after last p w c (inl x) (inl y) = inl (omega arith)
after_after last p w c (inl x) (inr y) = inl (omega arith)
after_after last p w c (inr x) (inl y) = inl (omega arith)
after_after last p w c (inr x) (inr y) = inr (omega arith, omega arith)

module _ (far : ℕ → Far) (bs : List ℕ) (n : ℕ) where
  -- those left after the next target are those left after `last` that go behind it
  left_after : (last p : Place) → BoundIn n bs p.stop p.bound.0 → After last p.stop p.bound.0 → (ws : List ℕ)
      → Rest (BoundIn n bs) (λ w. Left n bs last w × Before (BoundIn n bs) p.stop w) ws → Rest (BoundIn n bs) (Left n bs p) ws
  left_after last p here a ws = rest_iff (λ w. Left n bs last w × Before (BoundIn n bs) p.stop w) (Left n bs p) ws (λ w b h x c k. there w c k x.1) (λ w b h x. back w b h x)
    where
      there : (w c : ℕ) → BoundIn n bs w c → Before (BoundIn n bs) p.stop w → After p w c
      there w c k (bound_falls {b = b} {c = d} x y l) = inl (omega (arith, one_bound n bs p.stop b p.bound.0 x here, one_bound n bs w d c y k))
      there w c k (number_rises {b = b} x y l) = inr (omega (arith, one_bound n bs p.stop b p.bound.0 x here, one_bound n bs w b c y k), l)

      before : (w b : ℕ) → BoundIn n bs w b → After p w b → Before (BoundIn n bs) p.stop w
      before w b h (inl l) = bound_falls {b = p.bound.0} {c = b} here h l
      before w b h (inr l) = number_rises {b = b} (rw l.0 here) h l.1

      back : (w b : ℕ) → BoundIn n bs w b → Left n bs p w → Left n bs last w × Before (BoundIn n bs) p.stop w
      back w b h x = (λ c k. after_after last p w c a (x c k), before w b h (x b h))

  searched_from : (k : ℕ) (vs : List ℕ) (last : Place) (st : Search) → Rest (BoundIn n bs) (Left n bs last) vs → length vs ≤ k
      → searched far bs n k last st ≡ run (bound_at bs) far vs st
  unfolding searched run
  searched_from zero [] last st r l = refl
  searched_from zero (v ∷ vs) last st r l = absurd (omega arith)
  searched_from (suc k) vs last st r l = go (next_in bs last n) refl (λ ws p s. searched_from k ws p s)
    where
      go : (x : Option Place) → next_in bs last n ≡ x
          → ((ws : List ℕ) (p : Place) (s : Search) → Rest (BoundIn n bs) (Left n bs p) ws → length ws ≤ k → searched far bs n k p s ≡ run (bound_at bs) far ws s)
          → option_map_or (λ p. cond (stops_at p.bound.0 st.best) st (searched far bs n k p (visited p.stop (far p.stop) st))) x st ≡ run (bound_at bs) far vs st
      go None e rec = let z : vs ≡ [] = none_left vs r (none_is_left bs last n e) in rw z
      go (Some p) e rec =
          let h = next_left (one_bound n bs) p.stop vs (next_is_head bs last n p e) r in
          let ws : List ℕ = h.0 in
          let few : length vs ≡ suc (length ws) = ap length h.1 in
          let more = rec ws p (visited p.stop (far p.stop) st) (left_after last p (next_bound bs last n p e) (next_after bs last n p e) ws h.2) (omega arith) in
          rw (h.1, (next_bound bs last n p e).1, more)

  pub searched_is_run : ((v b : ℕ) → BoundIn n bs v b → b < nowhere) → (st : Search) → searched far bs n n before_all st ≡ run (bound_at bs) far (order (bound_at bs) n) st
  searched_is_run small st =
      searched_from n (order (bound_at bs) n) before_all st
      (rest_iff (λ v. Unit {0}) (Left n bs before_all) (order (bound_at bs) n) (λ v b h x c k. inl (small v c k)) (λ v b h x. tt)
      (all_left (order_right n (bound_at bs) (record { told = λ v b h. h; holds = λ v b l e. (l, e) }))))
      (order_length (bound_at bs) n)

-- so it ends rightly, over any pairs that count and any bounds

pub searched_right : {Pair : ℕ → ℕ → ℕ → Type 0} {Bound : ℕ → ℕ → Type 0} (n : ℕ) (bs : List ℕ) → TellsBounds n (bound_at bs) Bound → ((v b : ℕ) → Bound v b → b < nowhere)
    → (far : ℕ → Far) → ((v : ℕ) → v < n → IsFar Pair v (far v)) → ((u v d : ℕ) → Pair u v d → 1 ≤ d) → ((u v d : ℕ) → Pair u v d → (b : ℕ) × Bound v b × (d ≤ b))
    → Right Pair Bound (searched far bs n n before_all begun)
searched_right {Pair} {Bound} n bs bounds small far right positive bounded =
    subst (Right Pair Bound) (sym (searched_is_run far bs n (λ v b h. small v b (bounds.holds v b h.0 h.1)) begun))
    (run_right n (bound_at bs) bounds far right positive bounded)

module _ (rs : List Row) (A W n : ℕ) (g : Good n rs) (aw : A ≤ W) (wh : W ≤ horizon) where
  entry_small : (v b : ℕ) → LatestEntry (rows_day rs) A W v b → b < nowhere
  entry_small v b h = omega (arith, h.holds.bound, h.holds.ends)

  -- the diameter
  pub diameter_searched : (bs : List ℕ) → TellsBounds n (bound_at bs) (LatestEntry (rows_day rs) A W)
      → (far : ℕ → Far) → ((v : ℕ) → v < n → IsFar (ReachedPairs rs A W n) v (far v))
      → Right (ReachedPairs rs A W n) (LatestEntry (rows_day rs) A W) (searched far bs n n before_all begun)
  diameter_searched bs bounds far right =
      searched_right n bs bounds entry_small far right (pair_positive rs A W n g aw wh) (pair_bounded rs A W n g aw wh)

  -- there is a farthest source of each target
  pub farthest_of_right : (v : ℕ) → v < n → IsFar (ReachedPairs rs A W n) v (farthest_of rs A W n v)
  farthest_of_right = far_right n (pair_of rs A W n) (pairs_told rs A W n g aw wh) (pair_positive rs A W n g aw wh)

  -- and a state that is right
  pub diameter_visited : Right (ReachedPairs rs A W n) (LatestEntry (rows_day rs) A W) (run (bound_of rs A W) (farthest_of rs A W n) (order (bound_of rs A W) n) begun)
  diameter_visited =
      run_right n (bound_of rs A W) (bounds_told rs A W n g aw wh) (farthest_of rs A W n) farthest_of_right (pair_positive rs A W n g aw wh) (pair_bounded rs A W n g aw wh)

  module _ (pivots : List Pivot) (sit : (p : Pivot) → Memᴰ p pivots → Sits n A W p) where
    under_small : (v b : ℕ) → LatestUnder (rows_day rs) A W pivots v b → b < nowhere
    under_small v b h = let x = h.holds in go x.0 (sit x.0 x.1) x.2.reaches x.2.bound
      where
        go : (p : Pivot) {d : ℕ} → Sits n A W p → Earliest (rows_day rs) p.reading W p.stop v (after d) → b ≡ p.reading + d - A → b < nowhere
        go p s (itself e) x = omega (arith, s.not_after)
        go p s (reached ne l) x = let t = l.holds.0 in omega (arith, l.holds.1, t.ends, t.begins, spans t.route)

    joined_positive : (u v d : ℕ) → ReachedJoined rs A W n pivots u v d → 1 ≤ d
    joined_positive u v d p = pair_positive rs A W n g aw wh u v d p.0

    -- the pivot-diameter
    pub pivot_diameter_searched : (bs : List ℕ) → TellsBounds n (bound_at bs) (LatestUnder (rows_day rs) A W pivots)
        → (far : ℕ → Far) → ((v : ℕ) → v < n → IsFar (ReachedJoined rs A W n pivots) v (far v))
        → Right (ReachedJoined rs A W n pivots) (LatestUnder (rows_day rs) A W pivots) (searched far bs n n before_all begun)
    pivot_diameter_searched bs bounds far right =
        searched_right n bs bounds under_small far right joined_positive (joined_bounded rs A W n g aw wh pivots sit)

    pub farthest_joined_right : (v : ℕ) → v < n → IsFar (ReachedJoined rs A W n pivots) v (farthest_joined rs A W n pivots v)
    farthest_joined_right = far_right n (joined_pair_of rs A W n pivots) (joined_pairs_told rs A W n g aw wh pivots sit) joined_positive

    pub pivot_diameter_visited : Right (ReachedJoined rs A W n pivots) (LatestUnder (rows_day rs) A W pivots)
        (run (pivot_bound_of rs A W n pivots) (farthest_joined rs A W n pivots) (order (pivot_bound_of rs A W n pivots) n) begun)
    pivot_diameter_visited =
        run_right n (pivot_bound_of rs A W n pivots) (pivot_bounds_told rs A W n g aw wh pivots sit) (farthest_joined rs A W n pivots) farthest_joined_right joined_positive
        (joined_bounded rs A W n g aw wh pivots sit)
