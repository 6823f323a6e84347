-- Laws of the bounds as legs are read one by one.
use Rattle.std.specs.Prelude.{ℕ, suc, ◌+◌, ◌≤◌, ◌<◌, ◌≡◌, refl, List, [], ◌∷◌, ◌++◌, length, get_or, set, replicate}
use Rattle.std.proofs.Common.{arith, ap, ◌∙◌, add-one}
use Rattle.std.proofs.lemmas.List.{length-replicate}
use lib.ListN.{get_or-append}
use lib.Seq.{set-append_left}
use Rattle.rules.specs.Day.{Row, arrival, Sound}
use Rattle.rules.specs.Faultless.{Good, good_more}
use Rattle.passes.specs.declared.legs.Leg.{Leg}
use Rattle.passes.specs.Forward.{nowhere}
use Rattle.passes.specs.Legs.{no_leg, leg_at, legs_in}
use Rattle.passes.specs.Links.{legs_past}
use Rattle.passes.proofs.Laws.Links.{legs_past_more, legs_past_end}
use Rattle.search.specs.Bounds.{later_of, entered, entered_by, bounds_of}
use Rattle.search.proofs.Laws.Entered.{entered_length}

-- with j legs entered: the legs left give from here the bounds that all give
pub record Entering (n : ℕ) (legs : List Leg) (old out : List ℕ) (j : ℕ) : Type 0 where
  pub good : Good n (legs_past legs j)
  pub leads : entered_by (legs_past legs j) out ≡ entered_by (legs_in legs) old

good_head : {n : ℕ} {q : Row} {qs : List Row} → Good n (q ∷ qs) → Sound n q
good_head (good_more s up g) = s

good_tail : {n : ℕ} {q : Row} {qs : List Row} → Good n (q ∷ qs) → Good n qs
good_tail (good_more s up g) = g

module _ {n : ℕ} {legs : List Leg} {old out : List ℕ} {j : ℕ} (h : Entering n legs old out j) where
  pub next_leg_sound : j < length legs → Sound n (leg_at legs j)
  next_leg_sound l = good_head (rw (legs_past_more legs j l) at h.good)

  -- a leg that takes time arrives when its row does
  pub enter_more : {out' : List ℕ} → j < length legs
      → out' ≡ set out (get_or legs j no_leg).to (later_of (get_or out (get_or legs j no_leg).to 0) (get_or legs j no_leg).arrive.0) → Entering n legs old out' (j + 1)
  unfolding entered_by entered
  enter_more {out'} l e =
      let at : (get_or legs j no_leg).arrive.0 ≡ arrival (leg_at legs j) = omega (arith, (next_leg_sound l).travels) in
      let same : out' ≡ entered out (leg_at legs j) = e ∙ ap (λ (x : ℕ). set out (get_or legs j no_leg).to (later_of (get_or out (get_or legs j no_leg).to 0) x)) at in
      rw (add-one j)
      (record {
        good = good_tail (rw (legs_past_more legs j l) at h.good);
        leads = ap (entered_by (legs_past legs (suc j))) same ∙ (rw (legs_past_more legs j l) at h.leads);
      })

  pub enter_end : length legs ≤ j → out ≡ entered_by (legs_in legs) old
  unfolding entered_by
  enter_end l = rw (legs_past_end legs j l) at h.leads

entered_append : (bs t : List ℕ) (q : Row) → q.to < length bs → entered (bs ++ t) q ≡ entered bs q ++ t
unfolding entered
entered_append bs t q l = simp (get_or-append bs t 0 q.to l, set-append_left bs t q.to (later_of (get_or bs q.to 0) (arrival q)) l)

by_append : (n : ℕ) (qs : List Row) (bs t : List ℕ) → Good n qs → length bs ≡ n → entered_by qs (bs ++ t) ≡ entered_by qs bs ++ t
unfolding entered_by
by_append n [] bs t g e = refl
by_append n (q ∷ qs) bs t (good_more s up g) e =
    ap (entered_by qs) (entered_append bs t q (omega (arith, s.to_below))) ∙ by_append n qs (entered bs q) t g (entered_length bs q ∙ e)

pub bounds_append : (n : ℕ) (qs : List Row) (t : List ℕ) → Good n qs → entered_by qs (replicate n nowhere ++ t) ≡ bounds_of n qs ++ t
bounds_append n qs t g = by_append n qs (replicate n nowhere) t g (length-replicate n nowhere)
