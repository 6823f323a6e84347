-- The forward pass gives the distances.
use Rattle.std.specs.Prelude.{ℕ, zero, suc, ◌-◌, ◌≤◌, ◌<◌, ◌≡◌, refl, ◌≢◌, cond, List, eqb, length, get_or, replicate}
use Rattle.std.proofs.Math.Path.{ap}
use Rattle.std.proofs.Common.{sym, ◌∙◌}
use native.Mathlib.Omega.{arith}
use Rattle.std.proofs.Math.Decide.{ℕ_discrete}
use Rattle.std.proofs.Math.ListN.{length-set, length-replicate}
use Rattle.std.proofs.Math.Seq.{get_or-set_same, get_or-set_other}
use borrow.Author.Tests.{eq-eqb, ne_eqb}
use Rattle.rules.specs.Clock.{horizon}
use Rattle.rules.specs.Day.{Row, arrival}
use Rattle.rules.specs.Routes.{Compatible, Dist, unreached, after, Earliest, itself, reached, no_route}
use Rattle.rules.specs.Faultless.{Good}
use Rattle.passes.specs.Forward.{nowhere, pass, init}
use Rattle.passes.proofs.Laws.Chains.{spans}
use Rattle.passes.specs.Days.{rows_day}
use Rattle.passes.proofs.Laws.Forward.{complete, Found, at_once, by_route, found, pass_le}

-- an arrival, or nowhere, read as a distance from A
unfoldable pub since : ℕ → ℕ → Dist
since A x = cond (eqb x nowhere) unreached (after (x - A))

-- the distance from u to v, by a pass from u
unfoldable pub dist : (rs : List Row) (A W n u v : ℕ) → Dist
dist rs A W n u v = since A (get_or (pass W rs (init A u n)) v nowhere)

get_or_nowhere : (n i : ℕ) → get_or (replicate n nowhere) i nowhere ≡ nowhere
get_or_nowhere zero i = refl
get_or_nowhere (suc n) zero = refl
get_or_nowhere (suc n) (suc i) = get_or_nowhere n i

module _ (rs : List Row) (A W n u : ℕ) (g : Good n rs) (un : u < n) (aw : A ≤ W) (wh : W ≤ horizon) where
  init_length : length (init A u n) ≡ n
  unfolding init
  init_length = length-set (replicate n nowhere) u A ∙ length-replicate n nowhere

  init_at : get_or (init A u n) u nowhere ≡ A
  unfolding init
  init_at = get_or-set_same (replicate n nowhere) u A nowhere (omega (arith, length-replicate n nowhere))

  init_other : (w : ℕ) → w ≢ u → get_or (init A u n) w nowhere ≡ nowhere
  unfolding init
  init_other w e = get_or-set_other (replicate n nowhere) u w A nowhere e ∙ get_or_nowhere n w

  ends_at : (v : ℕ) → ℕ
  ends_at v = get_or (pass W rs (init A u n)) v nowhere

  take_off : (w t : ℕ) → get_or (init A u n) w nowhere ≤ t → t ≤ W → (w ≡ u) × (A ≤ t)
  take_off w t h k = go (ℕ_discrete w u)
    where
      go : Dec (w ≡ u) → (w ≡ u) × (A ≤ t)
      go (yes e) = (e, omega (arith, rw init_at at (rw e at h)))
      go (no e) = absurd (omega (arith, rw (init_other w e) at h))

  at_source : ends_at u ≡ A
  unfolding ends_at
  at_source = go (found W n rs (init A u n) u g init_length) (rw init_at at (pass_le W n rs (init A u n) g init_length u))
    where
      go : {a : ℕ} → Found W rs (init A u n) u a → a ≤ A → a ≡ A
      go (at_once x) b = cc (init_at)
      go (by_route f l t h x y z) b = omega (arith, spans t, take_off f.from f.start h (omega (arith, spans t)))

  at_most : (v : ℕ) (t : Compatible (rows_day rs) A W u v) → ends_at v ≤ arrival t.last
  unfolding ends_at
  at_most v t =
      rw t.enters at
      (complete W n rs (init A u n) t.first t.last g init_length t.route (rw (t.leaves, init_at) t.begins) t.ends)

  real : (v : ℕ) → v ≢ u → ends_at v ≢ nowhere → (t : Compatible (rows_day rs) A W u v) × (arrival t.last ≡ ends_at v)
  unfolding ends_at
  real v ne e = go (found W n rs (init A u n) v g init_length) e
    where
      go : {a : ℕ} → Found W rs (init A u n) v a → a ≢ nowhere → (t : Compatible (rows_day rs) A W u v) × (arrival t.last ≡ a)
      go (at_once x) k = absurd (k (sym x ∙ init_other v ne))
      go (by_route f l t h x y z) k =
          let off : (f.from ≡ u) × (A ≤ f.start) = take_off f.from f.start h (omega (arith, spans t)) in
          (record { first = f; last = l; route = t; leaves = off.0; enters = x; begins = off.1; ends = omega arith }, y)

  late : {v : ℕ} (t : Compatible (rows_day rs) A W u v) → A ≤ arrival t.last
  late t = omega (arith, spans t.route)

  pub dist_right : (v : ℕ) → Earliest (rows_day rs) A W u v (dist rs A W n u v)
  unfolding dist since ends_at
  dist_right v = go (ℕ_discrete v u) (ℕ_discrete (ends_at v) nowhere)
    where
      go : Dec (v ≡ u) → Dec (ends_at v ≡ nowhere) → Earliest (rows_day rs) A W u v (since A (ends_at v))
      go (yes e) d =
          let z : A - A ≡ 0 = omega arith in rw (e, at_source, ne_eqb A nowhere (omega arith), z) (itself refl)
      go (no e) (yes d) = rw (eq-eqb (ends_at v) nowhere d) (no_route (λ x. e (sym x)) (λ t. omega (arith, at_most v t, t.ends)))
      go (no e) (no d) =
          rw (ne_eqb (ends_at v) nowhere d)
          (reached (λ x. e (sym x))
          (record {
            holds = let t = real v e d in (t.0, ap (λ (x : ℕ). x - A) t.1);
            least = λ c h. omega (arith, at_most v h.0, h.1, late h.0);
          }))
