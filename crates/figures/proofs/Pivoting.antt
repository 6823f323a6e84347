-- Pivots read from numbers, and the search for the first that is astray.
use Prim.Native.Nat.{ℕ, zero, suc, ◌+◌, ◌*◌, ◌/◌, ◌≤◌, ◌<◌}
use mathlib.Core.Path.{◌≡◌, refl, ap}
use mathlib.Core.Logic.{inr}
use mathlib.Core.Bool.{Bool, true, false, ◌||◌}
use mathlib.Core.List.{List, [], ◌∷◌}
use native.Mathlib.Omega.{arith}
use native.Mathlib.Decide.{ℕ_discrete, dec_le, dec_lt}
use lib.Dec.{leb, ltb}
use lib.ListN.{length}
use borrow.Author.Tests.{leb-true, leb-false, ltb-true, ltb-false}
use Rattle.rules.specs.Words.{Least, At, at_first, at_later}
use Rattle.rules.specs.Pivots.{Pivot, most_pivots, pivots_of, Astray, no_stop, too_early, too_late}
use Rattle.rules.specs.Table.{check_8, check_9, Clear}
use Rattle.rules.specs.Faultless.{Sits}
use Rattle.rules.proofs.Laws.Good.{at_same, at_below, at_member, none_if_no_least}
use Rattle.rules.proofs.Laws.Joined.{none_astray_sits}
use Rattle.figures.specs.Pivots.{pivot_width, pivot_at, astrayb, AllSit}

pub length_pivots : (list : List ℕ) → length (pivots_of list) ≡ length list / pivot_width
unfolding pivots_of
length_pivots [] = omega arith
length_pivots (p ∷ []) = omega arith
length_pivots (p ∷ s ∷ list) = omega (arith, length_pivots list)

next_pivot : (p s : ℕ) (list : List ℕ) (i : ℕ) → pivot_at (p ∷ s ∷ list) (suc i) ≡ pivot_at list i
next_pivot p s list i =
    let e : suc i * pivot_width ≡ suc (suc (i * pivot_width)) = omega arith in
    let f : suc i * pivot_width + 1 ≡ suc (suc (i * pivot_width + 1)) = omega arith in
    rw (f, e)

pub pivots_at : (list : List ℕ) (i : ℕ) → i < length list / pivot_width → At (pivots_of list) i (pivot_at list i)
unfolding pivots_of
pivots_at [] i h = absurd (omega arith)
pivots_at (p ∷ []) i h = absurd (omega arith)
pivots_at (p ∷ s ∷ list) zero h = at_first
pivots_at (p ∷ s ∷ list) (suc i) h = rw (next_pivot p s list i) (at_later (pivots_at list i (omega arith)))

-- what the test says of pivot i
data Tested (n A W : ℕ) (p : Pivot) : Bool → Type 0 where
  strays : ((ps : List Pivot) (i : ℕ) → At ps i p → Astray n A W ps i) → Tested n A W p true
  sits : p.stop < n → A ≤ p.reading → p.reading ≤ W → Tested n A W p false

tested : (n A W : ℕ) (p : Pivot) → Tested n A W p (astrayb n A W p)
tested n A W p = go (leb n p.stop) (ltb p.reading A) (ltb W p.reading) refl refl refl
  where
    go : (x y z : Bool) → leb n p.stop ≡ x → ltb p.reading A ≡ y → ltb W p.reading ≡ z → Tested n A W p (x || (y || z))
    go true y z e f g = strays (λ ps i a. no_stop a (leb-true _ _ e))
    go false true z e f g = strays (λ ps i a. too_early a (ltb-true _ _ f))
    go false false true e f g = strays (λ ps i a. too_late a (ltb-true _ _ g))
    go false false false e f g = sits (leb-false _ _ e) (ltb-false _ _ f) (ltb-false _ _ g)

-- the pivots before i are not astray
abbrev pub NoneAstray : (n A W : ℕ) (list : List ℕ) (i : ℕ) → Type 0
NoneAstray n A W list i = (j : ℕ) → j < i → Astray n A W (pivots_of list) j → ⊥

module _ (n A W : ℕ) (list : List ℕ) (i : ℕ) (inside : i < length list / pivot_width) where
  pub is_astray : astrayb n A W (pivot_at list i) ≡ true → NoneAstray n A W list i → Least (Astray n A W (pivots_of list)) i
  is_astray h before = record { holds = go (tested n A W (pivot_at list i)) h; least = λ j a. least j a (dec_le i j) }
    where
      go : {b : Bool} → Tested n A W (pivot_at list i) b → b ≡ true → Astray n A W (pivots_of list) i
      go (strays k) e = k (pivots_of list) i (pivots_at list i inside)
      go (sits x y z) e = let w : ◌≡◌ {A = ℕ} 0 1 = cc in absurd (omega arith)

      least : (j : ℕ) → Astray n A W (pivots_of list) j → Dec (i ≤ j) → i ≤ j
      least j a (yes d) = d
      least j a (no d) = absurd (before j (omega arith) a)

  not_astray : astrayb n A W (pivot_at list i) ≡ false → Astray n A W (pivots_of list) i → ⊥
  not_astray h a = go (tested n A W (pivot_at list i)) h a
    where
      here : At (pivots_of list) i (pivot_at list i)
      here = pivots_at list i inside

      go : {b : Bool} → Tested n A W (pivot_at list i) b → b ≡ false → Astray n A W (pivots_of list) i → ⊥
      go (strays k) e x = let w : ◌≡◌ {A = ℕ} 0 1 = cc in absurd (omega arith)
      go (sits x y z) e (no_stop b l) = omega (arith, ap (λ (q : Pivot). q.stop) (at_same b here))
      go (sits x y z) e (too_early b l) = omega (arith, ap (λ (q : Pivot). q.reading) (at_same b here))
      go (sits x y z) e (too_late b l) = omega (arith, ap (λ (q : Pivot). q.reading) (at_same b here))

  pub one_more_sits : astrayb n A W (pivot_at list i) ≡ false → NoneAstray n A W list i → NoneAstray n A W list (i + 1)
  one_more_sits h before j l a = go (ℕ_discrete j i)
    where
      go : Dec (j ≡ i) → ⊥
      go (yes e) = not_astray h (rw e at a)
      go (no e) = before j (omega arith) a

pub all_sit : (n A W : ℕ) (list : List ℕ) (i : ℕ) → length list / pivot_width ≤ i → NoneAstray n A W list i → (j : ℕ) → Astray n A W (pivots_of list) j → ⊥
all_sit n A W list i h before j a = before j (omega (arith, below a, length_pivots list)) a
  where
    below : {k : ℕ} → Astray n A W (pivots_of list) k → k < length (pivots_of list)
    below (no_stop b l) = at_below b
    below (too_early b l) = at_below b
    below (too_late b l) = at_below b

-- pivots that pass 8 and 9 are few, and each sits
pub pivots_clear : (n A W : ℕ) (list : List ℕ) → Clear (check_8 list ∷ check_9 n A W (pivots_of list) ∷ []) → (length list / pivot_width ≤ most_pivots) × AllSit n A W list
pivots_clear n A W list clear =
    (few (dec_lt most_pivots (length (pivots_of list))), none_astray_sits n A W (pivots_of list) (none_if_no_least (Astray n A W (pivots_of list)) clear.1.0))
  where
    few : Dec (most_pivots < length (pivots_of list)) → length list / pivot_width ≤ most_pivots
    few (yes l) = absurd (clear.0 0 (refl, inr l))
    few (no l) = omega (arith, length_pivots list)

-- pivot i sits
pub pivot_sits : (n A W : ℕ) (pivots : List ℕ) (i : ℕ) → AllSit n A W pivots → i < length pivots / pivot_width → Sits n A W (pivot_at pivots i)
pivot_sits n A W pivots i sit h = sit (pivot_at pivots i) (at_member (pivots_at pivots i h))
