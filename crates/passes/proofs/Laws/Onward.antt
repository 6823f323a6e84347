-- A forward pass from a pivot, left at its reading, gives the bounds under it.
use Prim.Native.Nat.{ℕ, zero, suc, ◌-◌, ◌≤◌, ◌<◌}
use Rattle.std.specs.Prelude.{◌≡◌, refl, ◌≢◌, ◌↔◌, Bool, true, false, cond, eqb, set, replicate}
use Rattle.std.proofs.Math.Path.{ap}
use Rattle.std.proofs.Common.{sym, ◌∙◌, arith, get_or-set_same, get_or-set_other, ne_eqb}
use mathlib.Core.List.{List}
use Rattle.std.proofs.Math.Decide.{ℕ_discrete}
use Rattle.std.proofs.Math.ListN.{get_or}
use Rattle.std.proofs.lemmas.List.{length-replicate}
use Rattle.std.proofs.lemmas.Bool.{eqb-false}
use Rattle.rules.specs.Clock.{horizon}
use Rattle.rules.specs.Day.{Row}
use Rattle.rules.specs.Routes.{after, unreached, Earliest}
use Rattle.rules.specs.Pivots.{Pivot, Under}
use Rattle.rules.specs.Faultless.{Good, Sits}
use Rattle.rules.proofs.Laws.Single.{distance_single}
use Rattle.passes.specs.Legs.{legs_of}
use Rattle.passes.specs.Forward.{nowhere, pass, init, passed}
use Rattle.passes.specs.Pivots.{onward_pivot}
use Rattle.passes.proofs.Laws.Chains.{spans}
use Rattle.passes.specs.Days.{rows_day}
use Rattle.passes.proofs.Laws.Legs.{legs_good, legs_end, legs_distance_in}
use Rattle.passes.proofs.Laws.Forward.{Found, at_once, by_route, found}
use Rattle.passes.proofs.Laws.Distance.{since, dist, dist_right}
use Rattle.std.proofs.lemmas.List.{get_or_default}
use Rattle.passes.proofs.Laws.Passed.{passed_pass, passed_length, init_long}

-- before the pass no place holds less than when the rider leaves
init_least : (a u n w : ℕ) → u < n → a ≤ nowhere → a ≤ get_or (init a u n) w nowhere
unfolding init
init_least a u n w un l = go (ℕ_discrete w u)
  where
    none : (k j : ℕ) → get_or (replicate k nowhere) j nowhere ≡ nowhere
    none zero j = refl
    none (suc k) zero = refl
    none (suc k) (suc j) = none k j

    go : Dec (w ≡ u) → a ≤ get_or (set (replicate n nowhere) u a) w nowhere
    go (yes e) = rw (e, get_or-set_same (replicate n nowhere) u a nowhere (omega (arith, length-replicate n nowhere))) (omega arith)
    go (no e) = rw (get_or-set_other (replicate n nowhere) u w a nowhere e, none n w) l

module _ (rs : List Row) (A W n : ℕ) (g : Good n rs) (wh : W ≤ horizon) (p : Pivot) (s : Sits n A W p) (v : ℕ) (vn : v < n) where
  a : ℕ
  a = p.reading - A

  ls : List Row
  ls = legs_of A W rs

  good : Good n ls
  unfolding ls
  good = legs_good n A W rs g

  -- place v, as the pass by steps has it
  same : get_or (onward_pivot n A (legs_of A W rs) p) v 0 ≡ get_or (pass (W - A) ls (init a p.stop n)) v nowhere
  unfolding a ls
  same =
      get_or_default (passed ls (init a p.stop n)) v 0 nowhere (omega (arith, passed_length ls (init a p.stop n), init_long a p.stop n))
      ∙ ap (λ (st : List ℕ). get_or st v nowhere)
      (passed_pass (W - A) n ls (init a p.stop n) (omega arith) good (legs_end A W rs) (init_long a p.stop n))

  -- it is no earlier than the pivot's reading
  pub onward_late : p.reading - A ≤ get_or (onward_pivot n A (legs_of A W rs) p) v 0
  unfolding a ls
  onward_late = rw same (go (found (W - A) n ls (init a p.stop n) v good (init_long a p.stop n)))
    where
      low : (w : ℕ) → a ≤ get_or (init a p.stop n) w nowhere
      low w = init_least a p.stop n w s.below (omega (arith, s.not_after))

      go : {x : ℕ} → Found (W - A) ls (init a p.stop n) v x → a ≤ x
      go (at_once e) = omega (arith, low v)
      go (by_route f l t h x y z) = omega (arith, low f.from, spans t)

  -- and stands for the distance from the pivot
  pub onward_is : Earliest (rows_day rs) p.reading W p.stop v (since (p.reading - A) (get_or (onward_pivot n A (legs_of A W rs) p) v 0))
  unfolding a ls dist
  onward_is =
      rw same
      (legs_distance_in A W rs p.reading W a (W - A) (omega (arith, s.not_before)) (omega (arith, s.not_before, s.not_after)) (omega arith) p.stop v
      (dist_right ls a (W - A) n p.stop good s.below (omega (arith, s.not_after)) (omega arith) v))

  -- so it is the bound of v under the pivot, where there is one
  pub onward_under : (b : ℕ) → Under (rows_day rs) A W v b p ↔ ((get_or (onward_pivot n A (legs_of A W rs) p) v 0 ≡ b) × (b ≢ nowhere))
  unfolding since
  onward_under b = (λ h. there x (onward_late) (onward_is) h, λ h. back x (onward_late) (onward_is) h)
    where
      x : ℕ
      x = get_or (onward_pivot n A (legs_of A W rs) p) v 0

      there : (x : ℕ) → p.reading - A ≤ x → Earliest (rows_day rs) p.reading W p.stop v (cond (eqb x nowhere) unreached (after (x - (p.reading - A))))
          → Under (rows_day rs) A W v b p → (x ≡ b) × (b ≢ nowhere)
      there x low is u = go (eqb x nowhere) refl (distance_single is u.reaches)
        where
          go : (t : Bool) → eqb x nowhere ≡ t → cond t unreached (after (x - (p.reading - A))) ≡ after u.time → (x ≡ b) × (b ≢ nowhere)
          go true e k = let z : ◌≡◌ {A = ℕ} 0 1 = cc in absurd (omega arith)
          go false e k =
              let d : x - (p.reading - A) ≡ u.time = cc in
              let y : x ≡ b = omega (arith, u.bound, s.not_before) in
              (y, λ z. eqb-false x nowhere e (y ∙ z))

      back : (x : ℕ) → p.reading - A ≤ x → Earliest (rows_day rs) p.reading W p.stop v (cond (eqb x nowhere) unreached (after (x - (p.reading - A))))
          → (x ≡ b) × (b ≢ nowhere) → Under (rows_day rs) A W v b p
      back x low is h =
          let e : x ≢ nowhere = λ z. h.1 (sym h.0 ∙ z) in
          record { time = x - (p.reading - A); reaches = rw (ne_eqb x nowhere e) at is; bound = omega (arith, h.0, s.not_before) }
