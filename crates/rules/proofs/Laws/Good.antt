-- Where nothing is at fault, the rows are sound and their starts do not fall.
use Rattle.std.specs.Prelude.{ℕ, zero, suc, ◌≤◌, ◌<◌, ◌≡◌, refl, length}
use Rattle.std.proofs.Common.{arith}
use mathlib.Core.List.{List, [], ◌∷◌, Memᴰ}
use Rattle.std.proofs.Math.Decide.{ℕ_discrete, dec_le, dec_lt}
use Rattle.rules.specs.Words.{Least, At, at_first, at_later}
use Rattle.rules.specs.Clock.{horizon}
use Rattle.rules.specs.Day.{Row, arrival, Sound, Faulty, unsound, falls}
use Rattle.rules.specs.Faultless.{Good, good_none, good_more}

-- where P has no least number, it holds of none
none_below : (P : ℕ → Type 0) → ((x : ℕ) → Least P x → ⊥) → (k x : ℕ) → x < k → P x → ⊥
none_below P never zero x l p = omega arith
none_below P never (suc k) x l p = go (none_below P never k)
  where
    go : ((y : ℕ) → y < k → P y → ⊥) → ⊥
    go before = never x (record { holds = p; least = λ y h. more y h (dec_le x y) })
      where
        more : (y : ℕ) → P y → Dec (x ≤ y) → x ≤ y
        more y h (yes d) = d
        more y h (no d) = absurd (before y (omega arith) h)

pub none_if_no_least : (P : ℕ → Type 0) → ((x : ℕ) → Least P x → ⊥) → (x : ℕ) → P x → ⊥
none_if_no_least P never x = none_below P never (suc x) x (omega arith)

pub decide_sound : (n : ℕ) (r : Row) → Dec (Sound n r)
decide_sound n r = go (dec_lt r.from n) (dec_lt r.to n) (ℕ_discrete r.from r.to) (dec_le 1 r.travel) (dec_le (arrival r) horizon)
  where
    go : Dec (r.from < n) → Dec (r.to < n) → Dec (r.from ≡ r.to) → Dec (1 ≤ r.travel) → Dec (arrival r ≤ horizon) → Dec (Sound n r)
    go (yes a) (yes b) (no c) (yes d) (yes e) = yes (record { from_below = a; to_below = b; differ = c; travels = d; in_day = e })
    go (no a) b c d e = no (λ s. a s.from_below)
    go (yes a) (no b) c d e = no (λ s. b s.to_below)
    go (yes a) (yes b) (yes c) d e = no (λ s. s.differ c)
    go (yes a) (yes b) (no c) (no d) e = no (λ s. d s.travels)
    go (yes a) (yes b) (no c) (yes d) (no e) = no (λ s. e s.in_day)

pub later_fault : {n i : ℕ} {r : Row} {rs : List Row} → Faulty n rs i → Faulty n (r ∷ rs) (suc i)
later_fault (unsound a s) = unsound (at_later a) s
later_fault {i = i} (falls {j = j} a b e l) = falls (at_later a) (at_later b) (omega arith) l

pub faultless_good : (n : ℕ) (rs : List Row) → ((i : ℕ) → Faulty n rs i → ⊥) → Good n rs
faultless_good n [] no_fault = good_none
faultless_good n (r ∷ rs) no_fault = go (decide_sound n r) (faultless_good n rs (λ i f. no_fault (suc i) (later_fault f)))
  where
    up : (qs : List Row) → ((q : Row) → At qs 0 q → At rs 0 q) → Good n qs → (q : Row) → Memᴰ q qs → r.start ≤ q.start
    up (p ∷ qs) same (good_more s above g) q m = next (dec_le r.start p.start) m
      where
        next : Dec (r.start ≤ p.start) → Memᴰ q (p ∷ qs) → r.start ≤ q.start
        next (yes d) (Memᴰ.head e) = rw e d
        next (yes d) (Memᴰ.tail x) = omega (arith, above q x)
        next (no d) x = absurd (no_fault 1 (falls at_first (at_later (same p at_first)) refl (omega arith)))
    up [] same _ q m = elim m [ ]

    go : Dec (Sound n r) → Good n rs → Good n (r ∷ rs)
    go (yes s) g = good_more s (up rs (λ q a. a) g) g
    go (no s) g = absurd (no_fault 0 (unsound at_first s))

pub at_member : {A : Type 0} {xs : List A} {i : ℕ} {x : A} → At xs i x → Memᴰ x xs
at_member at_first = Memᴰ.head refl
at_member (at_later a) = Memᴰ.tail (at_member a)

pub at_below : {A : Type 0} {xs : List A} {i : ℕ} {x : A} → At xs i x → i < length xs
at_below at_first = omega arith
at_below (at_later a) = omega (arith, at_below a)

pub at_same : {A : Type 0} {xs : List A} {i : ℕ} {x y : A} → At xs i x → At xs i y → x ≡ y
at_same at_first at_first = refl
at_same (at_later a) (at_later b) = at_same a b

pub good_sound : {n : ℕ} {rs : List Row} → Good n rs → (q : Row) → Memᴰ q rs → Sound n q
good_sound (good_more s up g) q (Memᴰ.head e) = rw e s
good_sound (good_more s up g) q (Memᴰ.tail m) = good_sound g q m
good_sound {n = n} good_none q x3 = elim x3 [ ]

good_rises : {n : ℕ} {rs : List Row} {i j : ℕ} {q r : Row} → Good n rs → At rs j q → At rs i r → i ≡ suc j → q.start ≤ r.start
good_rises {r = r} (good_more s up g) at_first (at_later b) e = up r (at_member b)
good_rises (good_more s up g) at_first at_first e = absurd (omega arith)
good_rises (good_more s up g) (at_later a) at_first e = absurd (omega arith)
good_rises (good_more s up g) (at_later a) (at_later b) e = good_rises g a b (omega arith)
good_rises {n = n} {i = i} {j = j} {q = q} {r = r} good_none x7 _ e = elim x7 [ ]

pub good_faultless : {n : ℕ} {rs : List Row} → Good n rs → (i : ℕ) → Faulty n rs i → ⊥
good_faultless g i (unsound {r = r} a s) = s (good_sound g r (at_member a))
good_faultless g i (falls {j = j} a b e l) = omega (arith, good_rises g a b (omega arith))

pub moves : {n : ℕ} {rs : List Row} → Good n rs → (q : Row) → Memᴰ q rs → 1 ≤ q.travel
moves g q m = (good_sound g q m).travels
