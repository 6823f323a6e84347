-- What the sweep holds at a leg is the earliest arrival at the target by the legs from there on.
use Rattle.std.specs.Prelude.{ℕ, zero, suc, ◌+◌, ◌-◌, ◌≤◌, ◌<◌, ◌≡◌, refl, ◌≢◌, get_or, length}
use Rattle.std.proofs.Common.{ap, sym, ◌∙◌, arith, le-leb}
use mathlib.Core.List.{List, [], ◌∷◌, Memᴰ}
use Rattle.std.proofs.Math.Decide.{dec_lt}
use Rattle.rules.specs.Clock.{horizon}
use Rattle.rules.specs.Day.{Row, most_stops}
use Rattle.rules.specs.Lent.{Stands}
use Rattle.rules.specs.Faultless.{Good, good_none, good_more}
use Rattle.passes.specs.Backward.{earliest, Swept}
use Rattle.passes.specs.Legs.{leg_at, legs_in}
use Rattle.passes.specs.declared.legs.Leg as declared
use Rattle.passes.specs.Links.{legs_past, first_past, Linked, Orderly}
use Rattle.passes.proofs.Laws.Links.{First, hits, misses, first_past_lem, none_past, legs_past_more, legs_past_end, legs_past_all}
use Rattle.passes.specs.Days.{rows_day}
use Rattle.passes.proofs.Laws.Backward.{More, uses, skips, one_more, earliest_stands}
use Rattle.passes.proofs.Laws.Passed.{EndBy}

-- where all legs start at t or later, t does not matter
earliest_any : (v s t : ℕ) (rs : List Row) → ((q : Row) → Memᴰ q rs → t ≤ q.start) → earliest v s t rs ≡ earliest v s 0 rs
unfolding earliest
earliest_any v s t [] all = refl
earliest_any v s t (r ∷ rs) all =
    rw (le-leb t r.start (all r (Memᴰ.head refl)), le-leb 0 r.start (omega arith), earliest_any v s t rs (λ q m. all q (Memᴰ.tail m)))

earliest_skips : (v s t : ℕ) (r : Row) (rs : List Row) → (r.from ≡ s → t ≤ r.start → ⊥) → earliest v s t (r ∷ rs) ≡ earliest v s t rs
earliest_skips v s t r rs not = go (one_more v s t r rs)
  where
    go : {x y : ℕ} → More s t r x (earliest v s t rs) y → y ≡ earliest v s t rs
    go (uses a b) = absurd (not a b)
    go (skips a) = refl

none_swept : (list : List declared.Leg) (best : List ℕ) (v s t k : ℕ) → Swept list v k best → length list ≤ k → get_or best (first_past list k s t) 0 ≡ earliest v s t (legs_past list k)
unfolding earliest
none_swept list best v s t k w h = rw (none_past list k s t h, legs_past_end list k h) w.none

-- what the sweep holds at the first leg past k that leaves stop s at t or later
swept_by : (list : List declared.Leg) (best : List ℕ) (v n s t c k : ℕ) → Swept list v k best → length list ≤ c + k → Good n (legs_past list k) → get_or best (first_past list k s t) 0 ≡ earliest v s t (legs_past list k)
swept_by list best v n s t zero k w e g = none_swept list best v s t k w (omega arith)
swept_by list best v n s t (suc c) k w e g = go (dec_lt k (length list)) (λ g. swept_by list best v n s t c (suc k) (record { long = w.long; none = w.none; each = λ x l m. w.each x (omega arith) m }) (omega arith) g)
  where
    go : Dec (k < length list) → (Good n (legs_past list (suc k)) → get_or best (first_past list (suc k) s t) 0 ≡ earliest v s t (legs_past list (suc k))) → get_or best (first_past list k s t) 0 ≡ earliest v s t (legs_past list k)
    go (no d) rec = none_swept list best v s t k w (omega arith)
    go (yes d) rec = step (first_past_lem list k s t d) (rw (legs_past_more list k d) at g)
      where
        all : (q : Row) → Good n (leg_at list k ∷ legs_past list (suc k)) → Memᴰ q (leg_at list k ∷ legs_past list (suc k)) → (leg_at list k).start ≤ q.start
        all q (good_more z up h) (Memᴰ.head f) = rw f (omega arith)
        all q (good_more z up h) (Memᴰ.tail m) = up q m

        later : Good n (leg_at list k ∷ legs_past list (suc k)) → Good n (legs_past list (suc k))
        later (good_more z up h) = h

        step : {q : ℕ} → First list k s t q → Good n (leg_at list k ∷ legs_past list (suc k)) → get_or best q 0 ≡ earliest v s t (legs_past list k)
        step (hits a b) h =
            let z : suc k - 1 ≡ k = omega arith in
            (rw (z, a) at (w.each (suc k) (omega arith) (omega arith))) ∙ sym (earliest_any v s t (legs_past list k) (rw (legs_past_more list k d) (λ q m. omega (arith, all q h m))))
        step (misses a) h = rec (later h) ∙ (sym (earliest_skips v s t (leg_at list k) (legs_past list (suc k)) a) ∙ ap (earliest v s t) (sym (legs_past_more list k d)))

pub good_past : (n : ℕ) (list : List declared.Leg) (k : ℕ) → Good n (legs_in list) → Good n (legs_past list k)
good_past n list zero g = rw (legs_past_all list) g
good_past n list (suc k) g = go (dec_lt k (length list)) (good_past n list k g)
  where
    later : Good n (leg_at list k ∷ legs_past list (suc k)) → Good n (legs_past list (suc k))
    later (good_more s up h) = h

    go : Dec (k < length list) → Good n (legs_past list k) → Good n (legs_past list (suc k))
    go (yes d) h = later (rw (legs_past_more list k d) at h)
    go (no d) h = rw (legs_past_end list (suc k) (omega arith)) good_none

module _ (list : List declared.Leg) (fit : Orderly list) (v : ℕ) (best : List ℕ) where
  pub swept_at : (k s t : ℕ) → Swept list v k best → get_or best (first_past list k s t) 0 ≡ earliest v s t (legs_past list k)
  swept_at k s t w = swept_by list best v most_stops s t (length list) k w (omega arith) (good_past most_stops list k fit.good)

  -- a stop's first leg has the earliest arrival from the stop
  pub swept_head : (head next follow : List ℕ) (u : ℕ) → Linked list 0 head next follow → Swept list v 0 best → u < most_stops → get_or best (get_or head u 0) 0 ≡ earliest v u 0 (legs_in list)
  swept_head head next follow u l w h = rw (l.heads u h) (swept_at 0 u 0 w ∙ ap (earliest v u 0) (legs_past_all list))

  pub swept_stands : (n W : ℕ) (head next follow : List ℕ) (u : ℕ) → Good n (legs_in list) → EndBy W (legs_in list) → W ≤ horizon
      → Linked list 0 head next follow → Swept list v 0 best → u < most_stops → u ≢ v → Stands (rows_day (legs_in list)) 0 W u v (get_or best (get_or head u 0) 0)
  swept_stands n W head next follow u g ends wh l w h ne = rw (swept_head head next follow u l w h) (earliest_stands (legs_in list) W n g ends wh u v ne)
