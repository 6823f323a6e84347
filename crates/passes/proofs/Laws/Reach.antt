-- The scan back from a pivot knows every route that reaches it in time, and nothing else.
use Prim.Native.Nat.{ℕ, zero, suc, ◌+◌, ◌-◌, ◌≤◌, ◌<◌, max}
use Rattle.std.specs.Prelude.{◌≡◌, refl, ◌≢◌, ◌↔◌, Bool, true, false, cond, ltb, set, replicate}
use Rattle.std.proofs.Common.{ap, sym, ◌∙◌, inl, inr, arith, length-set}
use mathlib.Core.List.Memᴰ
use mathlib.Core.List.{List, [], ◌∷◌, ◌++◌}
use Rattle.std.proofs.Math.Decide.{ℕ_discrete, dec_le}
use Rattle.std.proofs.Math.ListN.{length, get_or, length-replicate, get_or-append}
use Rattle.std.proofs.Math.Seq.{get_or-set_same, get_or-set_other}
use Rattle.std.proofs.lemmas.List.{set-append_left}
use borrow.Author.Tests.{ltb-true, lt-ltb}
use Rattle.rules.specs.Day.{Row, arrival}
use Rattle.rules.specs.Routes.{Route, ride, onto}
use Rattle.rules.specs.Pivots.{Pivot, Into}
use Rattle.rules.proofs.Laws.Good.{moves}
use Rattle.rules.specs.Faultless.{Good, good_more, Sits}
use Rattle.passes.specs.Legs.{legs_of}
use Rattle.passes.specs.Reach.{caught, caught_by, reached_back, reach_init}
use Rattle.passes.specs.Pivots.{into_pivot}
use Rattle.passes.proofs.Laws.Chains.{Uncons, in_tail, alone, leads, uncons, widen, empty_route}
use Rattle.passes.specs.Days.{rows_day}
use Rattle.passes.proofs.Laws.Legs.{legs_good, legs_compatible, compatible_behind}
use Rattle.passes.proofs.Laws.Passed.{Inside}

caught_by_length : (st : List ℕ) (f t s a : ℕ) → length (caught_by st f t s a) ≡ length st
caught_by_length st f t s a = length-set st f (max (caught (get_or st t 0) s a) (get_or st f 0))

pub reached_back_length : (rs : List Row) (st : List ℕ) → length (reached_back rs st) ≡ length st
unfolding reached_back
reached_back_length [] st = refl
reached_back_length (r ∷ rs) st = caught_by_length (reached_back rs st) _ _ _ _ ∙ reached_back_length rs st

pub reach_init_long : (by stop n : ℕ) → length (reach_init by stop n) ≡ n
unfolding reach_init
reach_init_long by stop n = length-set (replicate n 0) stop _ ∙ length-replicate {A = ℕ} n 0

caught_append : (st t : List ℕ) (f u s a : ℕ) → f < length st → u < length st → caught_by (st ++ t) f u s a ≡ caught_by st f u s a ++ t
caught_append st t f u s a fl ul =
    rw (get_or-append st t 0 f fl, get_or-append st t 0 u ul) (set-append_left st t f (max (caught (get_or st u 0) s a) (get_or st f 0)) fl)

-- what stands beyond the stops stays
pub reached_back_append : (n : ℕ) (rs : List Row) (st t : List ℕ) → Inside n rs → length st ≡ n → reached_back rs (st ++ t) ≡ reached_back rs st ++ t
unfolding reached_back
reached_back_append n [] st t h e = refl
reached_back_append n (r ∷ rs) st t h e =
    let k = h r (Memᴰ.head refl) in
    let long : length (reached_back rs st) ≡ n = reached_back_length rs st ∙ e in
    ap (λ (l : List ℕ). caught_by l r.from r.to r.start (arrival r)) (reached_back_append n rs st t (λ q m. h q (Memᴰ.tail m)) e)
    ∙ caught_append (reached_back rs st) t r.from r.to r.start (arrival r) (omega (arith, k.0)) (omega (arith, k.1))

get_or_zero : (n i : ℕ) → get_or {A = ℕ} (replicate n 0) i 0 ≡ 0
get_or_zero zero i = refl
get_or_zero (suc n) zero = refl
get_or_zero (suc n) (suc i) = get_or_zero n i

-- what place u holds after one leg more
data Caught (r : Row) (st : List ℕ) (u : ℕ) : ℕ → Type 0 where
  kept : Caught r st u (get_or st u 0)
  new : u ≡ r.from → arrival r < get_or st r.to 0 → Caught r st u (r.start + 1)

module _ (r : Row) (st : List ℕ) (inside : r.from < length st) where
  x : ℕ
  x = caught (get_or st r.to 0) r.start (arrival r)

  at_from : get_or (caught_by st r.from r.to r.start (arrival r)) r.from 0 ≡ max x (get_or st r.from 0)
  unfolding x
  at_from = get_or-set_same st r.from (max x (get_or st r.from 0)) 0 inside

  elsewhere : (u : ℕ) → u ≢ r.from → get_or (caught_by st r.from r.to r.start (arrival r)) u 0 ≡ get_or st u 0
  unfolding x
  elsewhere u ne = get_or-set_other st r.from u (max x (get_or st r.from 0)) 0 ne

  caught_one : (u : ℕ) → Caught r st u (get_or (caught_by st r.from r.to r.start (arrival r)) u 0)
  unfolding x
  caught_one u = go (ℕ_discrete u r.from)
    where
      old : ℕ
      old = get_or st r.from 0

      pick : (b : Bool) → ltb (arrival r) (get_or st r.to 0) ≡ b → Dec (cond b (r.start + 1) 0 ≤ old) → Caught r st r.from (max (cond b (r.start + 1) 0) old)
      pick b e (yes d) = let z : max (cond b (r.start + 1) 0) old ≡ old = omega arith in rw z kept
      pick true e (no d) = let z : max (r.start + 1) old ≡ r.start + 1 = omega arith in rw z (new refl (ltb-true _ _ e))
      pick false e (no d) = absurd (omega arith)

      go : Dec (u ≡ r.from) → Caught r st u (get_or (caught_by st r.from r.to r.start (arrival r)) u 0)
      go (yes e) = rw (e, at_from) (pick (ltb (arrival r) (get_or st r.to 0)) refl (dec_le x old))
      go (no e) = rw (elsewhere u e) kept

  -- no number falls
  caught_le : (u : ℕ) → get_or st u 0 ≤ get_or (caught_by st r.from r.to r.start (arrival r)) u 0
  caught_le u = go (ℕ_discrete u r.from)
    where
      go : Dec (u ≡ r.from) → get_or st u 0 ≤ get_or (caught_by st r.from r.to r.start (arrival r)) u 0
      go (yes e) = rw (e, at_from) (omega arith)
      go (no e) = rw (elsewhere u e) (omega arith)

  -- a leg in time is known
  caught_from : arrival r < get_or st r.to 0 → r.start + 1 ≤ get_or (caught_by st r.from r.to r.start (arrival r)) r.from 0
  unfolding x
  caught_from h = rw (at_from, lt-ltb (arrival r) (get_or st r.to 0) h) (omega arith)

-- what the scan finds for stop u: nothing, the pivot's own stop, or a route that starts so late
pub data Back (rs : List Row) (p by u : ℕ) : ℕ → Type 0 where
  too_late : Back rs p by u 0
  at_stop : u ≡ p → Back rs p by u (by + 1)
  by_route : (f l : Row) → Route (rows_day rs) f l → f.from ≡ u → l.to ≡ p → arrival l ≤ by → Back rs p by u (f.start + 1)

abbrev back_of : (n p by : ℕ) → List Row → List ℕ
back_of n p by rs = reached_back rs (reach_init by p n)

module _ (n p by : ℕ) (pn : p < n) where
  state_long : (rs : List Row) → length (back_of n p by rs) ≡ n
  state_long rs = reached_back_length rs (reach_init by p n) ∙ reach_init_long by p n

  -- the pivot's own stop stays in time
  own_stop : (rs : List Row) → Good n rs → by + 1 ≤ get_or (back_of n p by rs) p 0
  unfolding reached_back reach_init
  own_stop [] g = omega (arith, get_or-set_same (replicate n 0) p (by + 1) 0 (omega (arith, length-replicate {A = ℕ} n 0)))
  own_stop (r ∷ rs) (good_more s up g) = omega (arith, own_stop rs g, caught_le r (back_of n p by rs) (omega (arith, s.from_below, state_long rs)) p)

  init_back : (u : ℕ) → Back [] p by u (get_or (reach_init by p n) u 0)
  unfolding reach_init
  init_back u = go (ℕ_discrete u p)
    where
      go : Dec (u ≡ p) → Back [] p by u (get_or (set (replicate n 0) p (by + 1)) u 0)
      go (yes e) = rw (e, get_or-set_same (replicate n 0) p (by + 1) 0 (omega (arith, length-replicate {A = ℕ} n 0))) (at_stop refl)
      go (no e) = rw (get_or-set_other (replicate n 0) p u (by + 1) 0 e, get_or_zero n u) too_late

  pub reach_found : (rs : List Row) → Good n rs → (u : ℕ) → Back rs p by u (get_or (back_of n p by rs) u 0)
  unfolding reached_back
  reach_found [] g u = init_back u
  reach_found (r ∷ rs) (good_more s up g) u =
      go (caught_one r (back_of n p by rs) (omega (arith, s.from_below, state_long rs)) u) (reach_found rs g u) (reach_found rs g r.to)
    where
      later : {y : ℕ} → Back rs p by u y → Back (r ∷ rs) p by u y
      later too_late = too_late
      later (at_stop e) = at_stop e
      later (by_route f l t a b c) = by_route f l (widen t) a b c

      lead : {y : ℕ} → Back rs p by r.to y → u ≡ r.from → arrival r < y → Back (r ∷ rs) p by u (r.start + 1)
      lead too_late e h = absurd (omega arith)
      lead (at_stop k) e h = by_route r r (ride (Memᴰ.head refl)) (sym e) k (omega arith)
      lead (by_route f l t a b c) e h = by_route r l (onto {q = f} (Memᴰ.head refl) (record { meets = a; waits = omega arith }) (widen t)) (sym e) b c

      go : {y : ℕ} → Caught r (back_of n p by rs) u y → Back rs p by u (get_or (back_of n p by rs) u 0) → Back rs p by r.to (get_or (back_of n p by rs) r.to 0) → Back (r ∷ rs) p by u y
      go kept here there = later here
      go (new e h) here there = lead there e h

  pub reach_complete : (rs : List Row) → Good n rs → (f l : Row) → Route (rows_day rs) f l → l.to ≡ p → arrival l ≤ by → f.start + 1 ≤ get_or (back_of n p by rs) f.from 0
  unfolding reached_back
  reach_complete [] g f l t e h = absurd (empty_route t)
  reach_complete (r ∷ rs) (good_more s up g) f l t e h = go (uncons (moves (good_more s up g)) up t) (reach_complete rs g)
    where
      inside : r.from < length (back_of n p by rs)
      inside = omega (arith, s.from_below, state_long rs)

      go : Uncons r rs f l → ((f' l' : Row) → Route (rows_day rs) f' l' → l'.to ≡ p → arrival l' ≤ by → f'.start + 1 ≤ get_or (back_of n p by rs) f'.from 0)
          → f.start + 1 ≤ get_or (back_of n p by (r ∷ rs)) f.from 0
      go (in_tail z) rec = omega (arith, rec f l z e h, caught_le r (back_of n p by rs) inside f.from)
      go (alone ef el) rec =
          let there : by + 1 ≤ get_or (back_of n p by rs) r.to 0 = rw (sym (ap (λ (q : Row). q.to) el) ∙ e) (own_stop rs g) in
          rw ef (caught_from r (back_of n p by rs) inside (omega (arith, ap arrival el)))
      go (leads {q = q} ef w z) rec =
          let there : q.start + 1 ≤ get_or (back_of n p by rs) r.to 0 = rw (w.meets, ef) at (rec q l z e h) in
          rw ef (caught_from r (back_of n p by rs) inside (omega (arith, ap arrival ef, w.waits)))

-- place u is not 0 exactly where u is the pivot's own stop, or a route from u reaches it in time
pub reach_back_right : (rs : List Row) (A W n : ℕ) (p : Pivot) (u : ℕ) → Good n rs → Sits n A W p
    → (get_or (into_pivot n A (legs_of A W rs) p) u 0 ≢ 0) ↔ Into (rows_day rs) A u p
reach_back_right rs A W n p u g s = (λ ne. out (reach_found n p.stop by s.below ls good u) ne, back)
  where
    ls : List Row
    ls = legs_of A W rs

    by : ℕ
    by = p.reading - A

    good : Good n ls
    good = legs_good n A W rs g

    out : {y : ℕ} → Back ls p.stop by u y → y ≢ 0 → Into (rows_day rs) A u p
    out too_late ne = absurd (ne refl)
    out (at_stop e) ne = inl e
    out (by_route f l t a b c) ne =
        inr (compatible_behind A W rs A p.reading 0 by (omega arith) (omega (arith, s.not_before)) s.not_after u p.stop
        (record { first = f; last = l; route = t; leaves = a; enters = b; begins = omega arith; ends = c })).0

    back : Into (rows_day rs) A u p → get_or (reached_back ls (reach_init by p.stop n)) u 0 ≢ 0
    back (inl e) z = omega (arith, own_stop n p.stop by s.below ls good, rw e at z)
    back (inr t) z =
        let k = (legs_compatible A W rs A p.reading 0 by (omega arith) (omega (arith, s.not_before)) s.not_after u p.stop t).0 in
        omega (arith, rw k.leaves at (reach_complete n p.stop by s.below ls good k.first k.last k.route k.enters k.ends))
