-- Legs swept one after another, from the last to the first.
use Prim.Native.Nat.{ℕ, suc, ◌-◌, ◌≤◌, ◌<◌, min}
use mathlib.Core.Path.{◌≡◌, refl, sym, ◌∙◌}
use mathlib.Core.Bool.{cond}
use mathlib.Core.List.{List}
use native.Mathlib.Omega.{arith}
use lib.Dec.{eqb}
use lib.ListN.{length, get_or, set, length-set}
use lib.Seq.{get_or-set_other}
use Rattle.rules.specs.Day.{arrival, most_stops}
use Rattle.passes.specs.Legs.{no_leg, LegRead}
use Rattle.passes.specs.declared.legs.Leg as declared
use Rattle.passes.specs.Links.{link_places, leg_no, legs_past, Orderly, Threaded, Linked}
use Rattle.passes.specs.Backward.{by, earliest, earliest_by, Swept}
use Rattle.passes.proofs.Laws.Links.{head_within, legs_past_more, first_leaves, leg_sound}
use Rattle.passes.proofs.Laws.Backward.{More, uses, skips, one_more}
use Rattle.passes.proofs.Laws.Swept.{swept_at}
use Rattle.passes.proofs.Linking.{stored}

-- what the links lead to is one of the legs, or none
module _ (list : List declared.Leg) (next follow : List ℕ) (threads : Threaded list 0 next follow) (k : ℕ) (one : 1 ≤ k) (within : k ≤ length list) where
  pub next_within : get_or next k 0 ≤ length list
  next_within = rw (threads.nexts k one within) (first_leaves list k (leg_no list k).from 0).most

  pub follow_within : get_or follow k 0 ≤ length list
  follow_within = rw (threads.follows k one within) (first_leaves list k (leg_no list k).to (arrival (leg_no list k))).most

-- so it has a place in an array over the numbers of legs
module _ (list : List declared.Leg) (head next follow : List ℕ) (linked : Linked list 0 head next follow) (fit : Orderly list) where
  pub head_small : (u : ℕ) → u < most_stops → get_or head u 0 < link_places
  head_small u h = omega (arith, fit.few, head_within list head next follow 0 u linked h)

  pub next_small : (k : ℕ) → 1 ≤ k → k ≤ length list → get_or next k 0 < link_places
  next_small k one within = omega (arith, fit.few, next_within list next follow linked.threads k one within)

  pub follow_small : (k : ℕ) → 1 ≤ k → k ≤ length list → get_or follow k 0 < link_places
  follow_small k one within = omega (arith, fit.few, follow_within list next follow linked.threads k one within)

module _ (list : List declared.Leg) (fit : Orderly list) (next follow : List ℕ) (threads : Threaded list 0 next follow) (v k : ℕ) (one : 1 ≤ k) (within : k ≤ length list) where
  -- the earliest arrival by leg k or a later one of its from-stop, by the recurrence
  earliest_next : earliest_by list v k ≡ min (by v (leg_no list k) (earliest v (leg_no list k).to (arrival (leg_no list k)) (legs_past list k))) (earliest v (leg_no list k).from 0 (legs_past list k))
  earliest_next =
      let number : suc (k - 1) ≡ k = omega arith in
      rw (legs_past_more list (k - 1) (omega arith), number) (go (one_more v (leg_no list k).from 0 (leg_no list k) (legs_past list k)))
    where
      go : {x rest y : ℕ} → More (leg_no list k).from 0 (leg_no list k) x rest y → y ≡ min x rest
      go (uses a b) = refl
      go (skips a) = absurd (a refl (omega arith))

  pub sweep_one : (best : List ℕ) (leg : declared.Leg) (own x : ℕ) → Swept list v k best → LegRead list (k - 1) leg
      → own ≡ cond (eqb leg.to v) leg.arrive.0 (get_or best (get_or follow k 0) 0) → x ≡ min own (get_or best (get_or next k 0) 0) → Swept list v (k - 1) (set best k x)
  sweep_one best leg own x w read eo ex =
      record {
        long = length-set best k x ∙ w.long;
        none = get_or-set_other best k 0 x 0 (omega arith) ∙ w.none;
        each = stored (λ (i y : ℕ). y ≡ earliest_by list v i) (length list) k x best (omega (arith, fit.few, w.long)) w.each here;
      }
    where
      arrives : (get_or list (k - 1) no_leg).arrive.0 ≡ arrival (leg_no list k)
      arrives = omega (arith, (leg_sound list fit (k - 1) (omega arith)).travels)

      on : get_or best (get_or follow k 0) 0 ≡ earliest v (leg_no list k).to (arrival (leg_no list k)) (legs_past list k)
      on = rw (threads.follows k one within) (swept_at list fit v best k (leg_no list k).to (arrival (leg_no list k)) w)

      beside : get_or best (get_or next k 0) 0 ≡ earliest v (leg_no list k).from 0 (legs_past list k)
      beside = rw (threads.nexts k one within) (swept_at list fit v best k (leg_no list k).from 0 w)

      here : x ≡ earliest_by list v k
      here = ex ∙ (rw (eo, read.is, arrives, on, beside) (sym earliest_next))
