-- The first leg past a number: where it lies, and how a chain leads to it.
use Rattle.std.specs.Prelude.{ℕ, zero, suc, ◌+◌, ◌-◌, ◌≤◌, ◌<◌, ◌≡◌, refl, Bool, true, false, cond, ◌&&◌, eqb, leb, get_or}
use Rattle.std.proofs.Common.{add-one, ap, sym, ◌∙◌, arith, eqb-true, ne_eqb, leb-true, leb-false, length, drop_of_length-le}
use mathlib.Core.List.{List, [], ◌∷◌, Memᴰ}
use Rattle.std.proofs.Math.Decide.{dec_lt}
use Rattle.std.proofs.lemmas.Bool.{eqb-false}
use Rattle.std.proofs.Math.Seq.{drop-cons}
use Rattle.rules.specs.Words.{things_from}
use Rattle.rules.specs.Day.{Row, Sound, most_stops}
use Rattle.rules.proofs.Laws.Good.{good_sound}
use Rattle.rules.proofs.Laws.Written.{things_more, things_end}
use Rattle.rules.specs.Faultless.{Good, good_none, good_more}
use Rattle.passes.specs.Legs.{leg_at, legs_in, no_leg}
use Rattle.passes.specs.declared.legs.Leg as declared
use Rattle.passes.specs.Links.{leg_no, legs_past, Orderly, first_of, first_past, onward, Leaving, Jump, Farther, to_near, to_far, Linked}

-- rows that are good for some stops are good for more
pub good_for_more : {n m : ℕ} {rs : List Row} → n ≤ m → Good n rs → Good m rs
good_for_more le good_none = good_none
good_for_more le (good_more {r = r} s up g) =
    good_more {r = r} (record { from_below = omega arith; to_below = omega arith; differ = s.differ; travels = s.travels; in_day = s.in_day }) up (good_for_more le g)

-- of the legs past number k, the one after it and the rest
pub legs_past_more : (list : List declared.Leg) (k : ℕ) → k < length list → legs_past list k ≡ leg_at list k ∷ legs_past list (suc k)
legs_past_more list k h = ap legs_in (drop-cons list k no_leg h)

pub legs_past_end : (list : List declared.Leg) (k : ℕ) → length list ≤ k → legs_past list k ≡ []
legs_past_end list k h = ap legs_in (drop_of_length-le list h)

-- they are the legs at their places, from place k on
legs_past_by : (list : List declared.Leg) (c k : ℕ) → length list ≤ c + k → legs_past list k ≡ things_from (leg_at list) (length list - k) k
legs_past_by list zero k e = legs_past_end list k (omega arith) ∙ sym (things_end (leg_at list) (length list) k (omega arith))
legs_past_by list (suc c) k e = go (dec_lt k (length list)) (legs_past_by list c (suc k) (omega arith))
  where
    go : Dec (k < length list) → legs_past list (suc k) ≡ things_from (leg_at list) (length list - suc k) (suc k) → legs_past list k ≡ things_from (leg_at list) (length list - k) k
    go (no d) rest = legs_past_end list k (omega arith) ∙ sym (things_end (leg_at list) (length list) k (omega arith))
    go (yes d) rest = rw (things_more (leg_at list) (length list) k d, add-one k) (legs_past_more list k d ∙ ap (λ (rs : List Row). leg_at list k ∷ rs) rest)

pub legs_past_things : (list : List declared.Leg) (k : ℕ) → legs_past list k ≡ things_from (leg_at list) (length list - k) k
legs_past_things list k = legs_past_by list (length list) k (omega arith)

pub legs_past_all : (list : List declared.Leg) → legs_past list 0 ≡ legs_in list
legs_past_all list = refl

-- what the leg after number k has to do with the first one past k
pub data First (list : List declared.Leg) (k s t : ℕ) : ℕ → Type 0 where
  hits : (leg_at list k).from ≡ s → t ≤ (leg_at list k).start → First list k s t (suc k)
  misses : ((leg_at list k).from ≡ s → t ≤ (leg_at list k).start → ⊥) → First list k s t (first_past list (suc k) s t)

pub first_past_lem : (list : List declared.Leg) (k s t : ℕ) → k < length list → First list k s t (first_past list k s t)
unfolding first_of
first_past_lem list k s t h = rw (legs_past_more list k h) (go (eqb r.from s) (leb t r.start) refl refl)
  where
    r : Row
    r = leg_at list k

    go : (p q : Bool) → eqb r.from s ≡ p → leb t r.start ≡ q → First list k s t (cond (p && q) (suc k) (first_past list (suc k) s t))
    go true true p q = hits (eqb-true _ _ p) (leb-true _ _ q)
    go true false p q = misses (λ e l. omega (arith, leb-false))
    go false d p q = misses (λ e l. eqb-false _ _ p e)

pub none_past : (list : List declared.Leg) (k s t : ℕ) → length list ≤ k → first_past list k s t ≡ 0
unfolding first_of
none_past list k s t h = rw (legs_past_end list k h)

none_leaves : (list : List declared.Leg) (k s t : ℕ) → length list ≤ k → Leaving list k s (first_past list k s t)
none_leaves list k s t h = rw (none_past list k s t h) (record { later = λ h. absurd (omega arith); most = omega arith; leaves = λ h. absurd (omega arith) })

leaving_by : (list : List declared.Leg) (s t c k : ℕ) → length list ≤ c + k → Leaving list k s (first_past list k s t)
leaving_by list s t zero k e = none_leaves list k s t (omega arith)
leaving_by list s t (suc c) k e = go (dec_lt k (length list)) (leaving_by list s t c (suc k) (omega arith))
  where
    go : Dec (k < length list) → Leaving list (suc k) s (first_past list (suc k) s t) → Leaving list k s (first_past list k s t)
    go (no d) rest = none_leaves list k s t (omega arith)
    go (yes d) rest = step (first_past_lem list k s t d)
      where
        step : {q : ℕ} → First list k s t q → Leaving list k s q
        step (hits a b) = record { later = λ h. omega arith; most = omega arith; leaves = λ h. let e : suc k - 1 ≡ k = omega arith in rw e a }
        step (misses a) = record { later = λ h. omega (arith, rest.later h); most = rest.most; leaves = rest.leaves }

-- the first leg past k that leaves stop s at t or later lies past k and leaves s
pub first_leaves : (list : List declared.Leg) (k s t : ℕ) → Leaving list k s (first_past list k s t)
first_leaves list k s t = leaving_by list s t (length list) k (omega arith)

pub head_within : (list : List declared.Leg) (head next follow : List ℕ) (k u : ℕ) → Linked list k head next follow → u < most_stops → get_or head u 0 ≤ length list
head_within list head next follow k u l h = rw (l.heads u h) (first_leaves list k u 0).most

pub first_missed : (list : List declared.Leg) (k s t : ℕ) → k < length list → ((leg_at list k).from ≡ s → t ≤ (leg_at list k).start → ⊥) → first_past list k s t ≡ first_past list (suc k) s t
first_missed list k s t h not = go (first_past_lem list k s t h)
  where
    go : {q : ℕ} → First list k s t q → q ≡ first_past list (suc k) s t
    go (hits a b) = absurd (not a b)
    go (misses a) = refl

pub first_hit : (list : List declared.Leg) (k s t : ℕ) → k < length list → (leg_at list k).from ≡ s → t ≤ (leg_at list k).start → first_past list k s t ≡ suc k
first_hit list k s t h e l = go (first_past_lem list k s t h)
  where
    go : {q : ℕ} → First list k s t q → q ≡ suc k
    go (hits a b) = refl
    go (misses a) = absurd (a e l)

none_onward : (list : List declared.Leg) (k s t : ℕ) → length list ≤ k → onward list (first_past list k s 0) t ≡ first_past list k s t
none_onward list k s t h = rw (none_past list k s 0 h, none_past list k s t h)

-- the first leg past k of stop s leads on to the first that starts at t or later
onward_by : (list : List declared.Leg) (s t c k : ℕ) → length list ≤ c + k → onward list (first_past list k s 0) t ≡ first_past list k s t
onward_by list s t zero k e = none_onward list k s t (omega arith)
onward_by list s t (suc c) k e = go (dec_lt k (length list)) (onward_by list s t c (suc k) (omega arith))
  where
    go : Dec (k < length list) → onward list (first_past list (suc k) s 0) t ≡ first_past list (suc k) s t → onward list (first_past list k s 0) t ≡ first_past list k s t
    go (no d) rest = none_onward list k s t (omega arith)
    go (yes d) rest = step (first_past_lem list k s 0 d)
      where
        step : {p : ℕ} → First list k s 0 p → onward list p t ≡ first_past list k s t
        step (hits a b) = let z : suc k - 1 ≡ k = omega arith in rw (ne_eqb (suc k) 0 (omega arith), z, a)
        step (misses a) = rest ∙ sym (first_missed list k s t d (λ x y. a x (omega arith)))

pub onward_first : (list : List declared.Leg) (k s t : ℕ) → onward list (first_past list k s 0) t ≡ first_past list k s t
onward_first list k s t = onward_by list s t (length list) k (omega arith)

-- a search ends at a leg that starts in time
pub onward_here : (list : List declared.Leg) (k t : ℕ) → 1 ≤ k → k ≤ length list → t ≤ (leg_no list k).start → onward list k t ≡ k
onward_here list k t one h l =
    let e : suc (k - 1) ≡ k = omega arith in
    rw (ne_eqb k 0 (omega arith)) (first_hit list (k - 1) (leg_no list k).from t (omega arith) refl l ∙ e)

-- leg j is one of the legs
leg_listed : (list : List declared.Leg) (j : ℕ) → j < length list → Memᴰ (leg_at list j) (legs_in list)
leg_listed [] j h = absurd (omega arith)
leg_listed (l ∷ list) zero h = Memᴰ.head refl
leg_listed (l ∷ list) (suc j) h = Memᴰ.tail (leg_listed list j (omega arith))

rises : (n : ℕ) (list : List declared.Leg) (i j : ℕ) → Good n (legs_in list) → i ≤ j → j < length list → (leg_at list i).start ≤ (leg_at list j).start
rises n [] i j g a b = absurd (omega arith)
rises n (l ∷ list) zero zero g a b = omega arith
rises n (l ∷ list) zero (suc j) (good_more s up g) a b = up (leg_at list j) (leg_listed list j (omega arith))
rises n (l ∷ list) (suc i) zero g a b = absurd (omega arith)
rises n (l ∷ list) (suc i) (suc j) (good_more s up g) a b = rises n list i j g (omega arith) (omega arith)

module _ (list : List declared.Leg) (fit : Orderly list) where
  pub leg_sound : (j : ℕ) → j < length list → Sound most_stops (leg_at list j)
  leg_sound j h = good_sound fit.good (leg_at list j) (leg_listed list j h)

  -- where leg q starts too early, so do all legs before it
  skip_by : (s t c k q : ℕ) → q ≡ c + k → q < length list → (leg_at list q).start < t → first_past list k s t ≡ first_past list q s t
  skip_by s t zero k q e h l = let z : k ≡ q = omega arith in rw z
  skip_by s t (suc c) k q e h l =
      first_missed list k s t (omega arith) (λ x y. omega (arith, rises most_stops list k q fit.good (omega arith) h))
      ∙ skip_by s t c (suc k) q (omega arith) h l

  -- past a leg that starts too early, a search goes on along the chain or by a jump
  onward_past : (k t : ℕ) → 1 ≤ k → k ≤ length list → (leg_no list k).start < t → onward list k t ≡ first_past list k (leg_no list k).from t
  onward_past k t one h l =
      let e : suc (k - 1) ≡ k = omega arith in
      rw (ne_eqb k 0 (omega arith)) (first_missed list (k - 1) (leg_no list k).from t (omega arith) (λ x y. omega arith) ∙ rw e)

  module _ (k t near far : ℕ) (one : 1 ≤ k) (within : k ≤ length list) (next : near ≡ first_past list k (leg_no list k).from 0) (jump : Jump list k far) where
    -- the next leg of a chain lies as a jump does
    pub farther_jump : {q : ℕ} → Farther list near far t q → Jump list k q
    farther_jump to_near = rw next (first_leaves list k (leg_no list k).from 0)
    farther_jump (to_far a b) = jump

    pub farther_onward : {q : ℕ} → (leg_no list k).start < t → Farther list near far t q → onward list q t ≡ onward list k t
    farther_onward early to_near = rw next (onward_first list k (leg_no list k).from t ∙ sym (onward_past k t one within early))
    farther_onward early (to_far a b) =
        rw (ne_eqb far 0 (omega arith), jump.leaves a)
        (sym (onward_past k t one within early ∙ skip_by (leg_no list k).from t (far - 1 - k) k (far - 1) (omega (arith, jump.later a)) (omega (arith, jump.most)) b))
