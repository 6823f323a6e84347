-- The scan of the distances to a target finds its farthest source.
use Rattle.std.specs.Prelude.{ℕ, suc, ◌≤◌, ◌<◌, ◌≡◌, refl, ◌≢◌, ◌⊎◌, Bool, true, false, not, ◌&&◌, cond, List, eqb, ltb, get_or}
use Rattle.std.proofs.Common.{ap, sym, ◌∙◌, subst, inl, inr, arith, eqb-true, ltb-true, ltb-false}
use Rattle.std.proofs.lemmas.Bool.{eqb-false}
use Rattle.rules.specs.Clock.{horizon}
use Rattle.rules.specs.Day.{Day}
use Rattle.rules.specs.Routes.{Dist, unreached, after, Earliest, in_numbers}
use Rattle.rules.specs.Eccentricity.{Reached}
use Rattle.rules.specs.Pivots.{Pivot, Joined}
use Rattle.rules.specs.Lent.{Stands}
use Rattle.rules.proofs.Laws.Single.{distance_single, distance_in_day}
use Rattle.passes.specs.Forward.{nowhere}
use Rattle.search.specs.declared.far.Far.{Far}
use Rattle.search.specs.Farthest.{nobody, farther, far_step, farthest_in}
use Rattle.search.proofs.Laws.Scan.{scan_keeps}
use Rattle.search.proofs.Laws.Greatest.{each_suc}
use Rattle.search.proofs.Laws.Visiting.{IsFar}

-- place u of the list tells the pair from u to v: its distance where the pair counts, else nowhere
pub record TellsSources (Pair : ℕ → ℕ → ℕ → Type 0) (n v : ℕ) (ds : List ℕ) : Type 0 where
  pub told : (u d : ℕ) → Pair u v d → (u < n) × (u ≢ v) × (get_or ds u 0 ≡ d) × (d ≢ nowhere)
  pub holds : (u : ℕ) → u < n → u ≢ v → get_or ds u 0 ≢ nowhere → Pair u v (get_or ds u 0)

-- source u counts
abbrev Counts : (ds : List ℕ) (v u : ℕ) → Type 0
Counts ds v u = (u ≢ v) × (get_or ds u 0 ≢ nowhere)

-- the farthest of the sources below k
record Over (ds : List ℕ) (v k : ℕ) (x : Far) : Type 0 where
  most : (u : ℕ) → u < k → Counts ds v u → get_or ds u 0 ≤ x.value
  real : x.value ≢ 0 → (x.source < k) × Counts ds v x.source × (get_or ds x.source 0 ≡ x.value)
  lowest : x.value ≢ 0 → (u : ℕ) → u < k → Counts ds v u → get_or ds u 0 ≡ x.value → x.source ≤ u

module _ (ds : List ℕ) (v : ℕ) where
  over_none : Over ds v 0 nobody
  over_none = record { most = λ u l c. absurd (omega arith); real = λ z. absurd (z refl); lowest = λ z. absurd (z refl) }

  -- a source that does not count changes nothing
  over_skip : (k : ℕ) (x : Far) → Over ds v k x → (Counts ds v k → ⊥) → Over ds v (suc k) x
  over_skip k x o skip =
      record {
        most = each_suc (λ u. Counts ds v u → get_or ds u 0 ≤ x.value) k (λ c. absurd (skip c)) o.most;
        real = λ z. let r = o.real z in (omega (arith, r.0), r.1, r.2);
        lowest = λ z. each_suc (λ u. Counts ds v u → get_or ds u 0 ≡ x.value → x.source ≤ u) k (λ c e. absurd (skip c)) (o.lowest z);
      }

  over_step : (k : ℕ) (x : Far) → Over ds v k x → Over ds v (suc k) (farther v k (get_or ds k 0) x)
  over_step k x o = go (eqb k v) (eqb d nowhere) (ltb x.value d) refl refl refl
    where
      d : ℕ
      d = get_or ds k 0

      go : (a b c : Bool) → eqb k v ≡ a → eqb d nowhere ≡ b → ltb x.value d ≡ c
          → Over ds v (suc k) (cond (not a && not b && c) (record { value = d; source = k }) x)
      go true b c e f h = over_skip k x o (λ t. t.0 (eqb-true _ _ e))
      go false true c e f h = over_skip k x o (λ t. t.1 (eqb-true _ _ f))
      go false false false e f h =
          record {
            most = each_suc (λ u. Counts ds v u → get_or ds u 0 ≤ x.value) k (λ t. ltb-false _ _ h) o.most;
            real = λ z. let r = o.real z in (omega (arith, r.0), r.1, r.2);
            lowest = λ z. each_suc (λ u. Counts ds v u → get_or ds u 0 ≡ x.value → x.source ≤ u) k (λ t i. omega (arith, (o.real z).0)) (o.lowest z);
          }
      go false false true e f h =
          record {
            most = each_suc (λ u. Counts ds v u → get_or ds u 0 ≤ d) k (λ t. omega arith) (λ u l t. omega (arith, o.most u l t, ltb-true x.value d h));
            real = λ z. (omega arith, (eqb-false _ _ e, eqb-false _ _ f), refl);
            lowest = λ z. each_suc (λ u. Counts ds v u → get_or ds u 0 ≡ d → k ≤ u) k (λ t i. omega arith) (λ u l t i. absurd (omega (arith, o.most u l t, ltb-true x.value d h)));
          }

pub farthest_is_far : {Pair : ℕ → ℕ → ℕ → Type 0} (n v : ℕ) (ds : List ℕ) → TellsSources Pair n v ds → ((u d : ℕ) → Pair u v d → 1 ≤ d)
    → IsFar Pair v (farthest_in ds v n)
unfolding farthest_in
farthest_is_far {Pair} n v ds t positive = go (farthest_in ds v n) (scan_keeps (Over ds v) (far_step ds v) (over_step ds v) n n 0 nobody (omega arith) (over_none ds v))
  where
    go : (x : Far) → Over ds v n x → IsFar Pair v x
    go x o =
        record {
          nobody = λ z u d p. omega (arith, positive u d p, below u d p);
          greatest = λ z. record { holds = (x.source, pair z); greatest = λ d h. below h.0 d h.1 };
          lowest = λ z. record { holds = pair z; least = λ u p. let w = t.told u x.value p in o.lowest z u w.0 (w.1, λ e. w.3 (sym w.2 ∙ e)) w.2 };
        }
      where
        below : (u d : ℕ) → Pair u v d → d ≤ x.value
        below u d p = let w = t.told u d p in omega (arith, o.most u w.0 (w.1, λ e. w.3 (sym w.2 ∙ e)), w.2)

        pair : x.value ≢ 0 → Pair x.source v x.value
        pair z = let r = o.real z in subst (Pair x.source v) r.2 (t.holds x.source r.0 r.1.0 r.1.1)

-- what a number that stands for a distance tells

module _ {day : Day} {A W : ℕ} (wh : W ≤ horizon) {u v : ℕ} where
  stands_told : (x d : ℕ) → Stands day A W u v x → Earliest day A W u v (after d) → (x ≡ d) × (d ≢ nowhere)
  stands_told x d s e =
      (s.as_number ∙ ap in_numbers (distance_single s.is e), omega (arith, distance_in_day wh e))

  stands_holds : (x : ℕ) → Stands day A W u v x → x ≢ nowhere → Earliest day A W u v (after x)
  stands_holds x s ne = go s.distance s.is s.as_number
    where
      go : (d : Dist) → Earliest day A W u v d → x ≡ in_numbers d → Earliest day A W u v (after x)
      go unreached i e = absurd (ne e)
      go (after d) i e = rw e i

module _ (day : Day) (A W n v : ℕ) (wh : W ≤ horizon) (vn : v < n) (ds : List ℕ) where
  -- a list of the distances to v
  pub distances_told : ((u : ℕ) → u < n → Stands day A W u v (get_or ds u 0)) → TellsSources (Reached n (Earliest day A W)) n v ds
  distances_told s =
      record {
        told = λ u d p. let t = stands_told wh (get_or ds u 0) d (s u p.source_below) p.distance in (p.source_below, p.differ, t.0, t.1);
        holds = λ u l ne x. record { source_below = l; target_below = vn; differ = ne; distance = stands_holds wh (get_or ds u 0) (s u l) x };
      }

  -- a list of the distances from v: the pairs turned round
  pub forward_told : ((u : ℕ) → u < n → Stands day A W v u (get_or ds u 0)) → TellsSources (λ u w d. Reached n (Earliest day A W) w u d) n v ds
  forward_told s =
      record {
        told = λ u d p. let t = stands_told wh (get_or ds u 0) d (s u p.target_below) p.distance in (p.target_below, λ e. p.differ (sym e), t.0, t.1);
        holds = λ u l ne x. record { source_below = vn; target_below = l; differ = λ e. ne (sym e); distance = stands_holds wh (get_or ds u 0) (s u l) x };
      }

  -- the same with nowhere for the sources that no pivot joins to v
  pub joined_told : (pivots : List Pivot)
      → ((u : ℕ) → u < n → u ≢ v → (Joined day A W pivots u v × Stands day A W u v (get_or ds u 0)) ⊎ ((Joined day A W pivots u v → ⊥) × (get_or ds u 0 ≡ nowhere)))
      → TellsSources (λ u v d. Reached n (Earliest day A W) u v d × Joined day A W pivots u v) n v ds
  joined_told pivots s = record { told = λ u d p. in_list u d p (s u p.0.source_below p.0.differ); holds = λ u l ne x. out u l ne x (s u l ne) }
    where
      in_list : (u d : ℕ) → Reached n (Earliest day A W) u v d × Joined day A W pivots u v
          → (Joined day A W pivots u v × Stands day A W u v (get_or ds u 0)) ⊎ ((Joined day A W pivots u v → ⊥) × (get_or ds u 0 ≡ nowhere))
          → (u < n) × (u ≢ v) × (get_or ds u 0 ≡ d) × (d ≢ nowhere)
      in_list u d p (inl j) = let t = stands_told wh (get_or ds u 0) d j.1 p.0.distance in (p.0.source_below, p.0.differ, t.0, t.1)
      in_list u d p (inr j) = absurd (j.0 p.1)

      out : (u : ℕ) → u < n → u ≢ v → get_or ds u 0 ≢ nowhere
          → (Joined day A W pivots u v × Stands day A W u v (get_or ds u 0)) ⊎ ((Joined day A W pivots u v → ⊥) × (get_or ds u 0 ≡ nowhere))
          → Reached n (Earliest day A W) u v (get_or ds u 0) × Joined day A W pivots u v
      out u l ne x (inl j) = (record { source_below = l; target_below = vn; differ = ne; distance = stands_holds wh (get_or ds u 0) j.1 x }, j.0)
      out u l ne x (inr j) = absurd (x j.1)
