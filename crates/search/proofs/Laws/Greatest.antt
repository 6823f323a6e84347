-- The greatest of some numbers that may be missing, and the lowest stop of which a test holds.
use Rattle.std.specs.Prelude.{ℕ, zero, suc, ◌≤◌, ◌<◌, max, ◌≡◌, refl, Bool, true, false, cond, eqb}
use Rattle.std.proofs.Common.{ap, sym, ◌∙◌, arith, eqb-true, eq-eqb}
use mathlib.Core.List.Memᴰ
use mathlib.Core.List.{List, [], ◌∷◌, Memᴰ}
use Rattle.std.proofs.Math.Option.{Option, none, some}
use Rattle.std.proofs.Math.Decide.{ℕ_discrete, dec_le}
use Rattle.rules.specs.Words.{GreatestIfAny}
use Rattle.rules.specs.Eccentricity.{Forward, Backward}

-- the greater of two numbers that may be missing
abbrev pub greater : Option ℕ → Option ℕ → Option ℕ
greater none y = y
greater (some x) none = some x
greater (some x) (some y) = some (max x y)

-- the greatest of the numbers that the list's members have
unfoldable pub greatest_of : {X : Type 0} → (X → Option ℕ) → List X → Option ℕ
greatest_of f [] = none
greatest_of f (x ∷ xs) = greater (f x) (greatest_of f xs)

-- a member of the list has the number d
abbrev pub Has : {X : Type 0} → (X → Option ℕ) → List X → ℕ → Type 0
Has {X} f xs d = (x : X) × Memᴰ x xs × (f x ≡ some d)

-- the stops below n
unfoldable pub stops : ℕ → List ℕ
stops zero = []
stops (suc n) = n ∷ stops n

-- the greatest distance to v and from u, where f u v is the distance of a pair that counts
unfoldable pub ecc_to : (ℕ → ℕ → Option ℕ) → (n v : ℕ) → Option ℕ
ecc_to f n v = greatest_of (λ u. f u v) (stops n)

unfoldable pub ecc_from : (ℕ → ℕ → Option ℕ) → (n u : ℕ) → Option ℕ
ecc_from f n u = greatest_of (λ v. f u v) (stops n)

-- whether the number is there, and is d
unfoldable pub is_value : ℕ → Option ℕ → Bool
is_value d none = false
is_value d (some e) = eqb d e

-- the first number, or where it is missing the second
abbrev pub or_else : Option ℕ → Option ℕ → Option ℕ
or_else none y = y
or_else (some x) y = some x

-- the lowest number below k of which the test holds
unfoldable pub least_of : (ℕ → Bool) → ℕ → Option ℕ
least_of t zero = none
least_of t (suc k) = or_else (least_of t k) (cond (t k) (some k) none)

-- what that says
abbrev pub LeastBelow : (ℕ → Bool) → ℕ → Option ℕ → Type 0
LeastBelow t k none = (w : ℕ) → w < k → t w ≡ true → ⊥
LeastBelow t k (some u) = (u < k) × (t u ≡ true) × ((w : ℕ) → w < k → t w ≡ true → u ≤ w)

-- f tells the pairs of n stops that count, with their distance
pub record TellsPairs (n : ℕ) (f : ℕ → ℕ → Option ℕ) (Pair : ℕ → ℕ → ℕ → Type 0) : Type 0 where
  pub told : (u v d : ℕ) → Pair u v d → (u < n) × (v < n) × (f u v ≡ some d)
  pub holds : (u v d : ℕ) → u < n → v < n → f u v ≡ some d → Pair u v d

pub not_none : {P : Type 0} {d : ℕ} {x : Option ℕ} → x ≡ none → x ≡ some d → P
not_none e f = let z : ◌≡◌ {A = ℕ} 0 1 = cc in absurd (omega arith)

pub some_same : {x : Option ℕ} {d e : ℕ} → x ≡ some d → x ≡ some e → d ≡ e
some_same p q = cc

pub not_both : {P : Type 0} {b : Bool} → b ≡ true → b ≡ false → P
not_both e f = let z : ◌≡◌ {A = ℕ} 0 1 = cc in absurd (omega arith)

pub each_cons : (P : ℕ → Type 0) {v : ℕ} {vs : List ℕ} → P v → ((q : ℕ) → Memᴰ q vs → P q) → (q : ℕ) → Memᴰ q (v ∷ vs) → P q
each_cons P h k q (Memᴰ.head e) = rw e h
each_cons P h k q (Memᴰ.tail m) = k q m

pub each_suc : (P : ℕ → Type 0) (k : ℕ) → P k → ((u : ℕ) → u < k → P u) → (u : ℕ) → u < suc k → P u
each_suc P k h l u m = go (ℕ_discrete u k)
  where
    go : Dec (u ≡ k) → P u
    go (yes e) = rw e h
    go (no e) = l u (omega arith)

pub greatest_of_all : {X : Type 0} (f : X → Option ℕ) (xs : List X) → GreatestIfAny (Has f xs) (greatest_of f xs)
unfolding greatest_of
greatest_of_all f [] = λ d h. Memᴰ.not-nil h.1
greatest_of_all {X} f (x ∷ xs) = go (f x) (greatest_of f xs) refl (greatest_of_all f xs)
  where
    split : (P : ℕ → Type 0) → ((d : ℕ) → f x ≡ some d → P d) → ((d : ℕ) → Has f xs d → P d) → (d : ℕ) → (y : X) → Memᴰ y (x ∷ xs) → f y ≡ some d → P d
    split P a b d y (Memᴰ.head e) k = a d (sym (ap f e) ∙ k)
    split P a b d y (Memᴰ.tail m) k = b d (y, m, k)

    later : (d : ℕ) → Has f xs d → Has f (x ∷ xs) d
    later d h = (h.0, Memᴰ.tail h.1, h.2)

    go : (a b : Option ℕ) → f x ≡ a → GreatestIfAny (Has f xs) b → GreatestIfAny (Has f (x ∷ xs)) (greater a b)
    go none none e h = λ d k. split (λ d. ⊥) (λ d j. not_none e j) h d k.0 k.1 k.2
    go none (some b) e h = record { holds = later b h.holds; greatest = λ d k. split (λ d. d ≤ b) (λ d j. not_none e j) h.greatest d k.0 k.1 k.2 }
    go (some a) none e h = record { holds = (x, Memᴰ.head refl, e); greatest = λ d k. split (λ d. d ≤ a) (λ d j. omega (arith, some_same e j)) (λ d j. absurd (h d j)) d k.0 k.1 k.2 }
    go (some a) (some b) e h =
        record {
          holds = pick (dec_le a b);
          greatest = λ d k. split (λ d. d ≤ max a b) (λ d j. omega (arith, some_same e j)) (λ d j. omega (arith, h.greatest d j)) d k.0 k.1 k.2;
        }
      where
        pick : Dec (a ≤ b) → Has f (x ∷ xs) (max a b)
        pick (yes l) = let m : max a b ≡ b = omega arith in rw m (later b h.holds)
        pick (no l) = let m : max a b ≡ a = omega arith in rw m (x, Memᴰ.head refl, e)

pub if_any_iff : (P Q : ℕ → Type 0) → ((d : ℕ) → P d → Q d) → ((d : ℕ) → Q d → P d) → (x : Option ℕ) → GreatestIfAny P x → GreatestIfAny Q x
if_any_iff P Q f g none h = λ d q. h d (g d q)
if_any_iff P Q f g (some x) h = record { holds = f x h.holds; greatest = λ d q. h.greatest d (g d q) }

pub stop_below : (n v : ℕ) → Memᴰ v (stops n) → v < n
unfolding stops
stop_below (suc n) v (Memᴰ.head e) = omega arith
stop_below (suc n) v (Memᴰ.tail m) = omega (arith, stop_below n v m)
stop_below zero v m = absurd (Memᴰ.not-nil m)

pub below_stop : (n v : ℕ) → v < n → Memᴰ v (stops n)
unfolding stops
below_stop zero v l = absurd (omega arith)
below_stop (suc n) v l = go (ℕ_discrete v n) (below_stop n v)
  where
    go : Dec (v ≡ n) → (v < n → Memᴰ v (stops n)) → Memᴰ v (n ∷ stops n)
    go (yes e) r = Memᴰ.head e
    go (no e) r = Memᴰ.tail (r (omega arith))

pub is_value_lem : (d : ℕ) (x : Option ℕ) → is_value d x ≡ true → x ≡ some d
unfolding is_value
is_value_lem d none e = not_both e refl
is_value_lem d (some y) e = ap some (sym (eqb-true d y e))

pub value_is : (d : ℕ) (x : Option ℕ) → x ≡ some d → is_value d x ≡ true
unfolding is_value
value_is d none e = not_none refl e
value_is d (some y) e = eq-eqb d y (some_same e refl)

pub least_below : (t : ℕ → Bool) (k : ℕ) → LeastBelow t k (least_of t k)
unfolding least_of
least_below t zero = λ w l e. omega arith
least_below t (suc k) = go (least_of t k) (least_below t k) (t k) refl
  where
    go : (o : Option ℕ) → LeastBelow t k o → (b : Bool) → t k ≡ b → LeastBelow t (suc k) (or_else o (cond b (some k) none))
    go none h true e = (omega arith, e, each_suc (λ w. t w ≡ true → k ≤ w) k (λ x. omega arith) (λ w l x. absurd (h w l x)))
    go none h false e = each_suc (λ w. t w ≡ true → ⊥) k (λ x. not_both x e) h
    go (some u) h b e = (omega arith, h.1, each_suc (λ w. t w ≡ true → u ≤ w) k (λ x. omega arith) h.2)

-- the eccentricities

module _ {Pair : ℕ → ℕ → ℕ → Type 0} (n : ℕ) (f : ℕ → ℕ → Option ℕ) (pairs : TellsPairs n f Pair) where
  pub backward_right : (v : ℕ) → v < n → Backward Pair v (ecc_to f n v)
  unfolding ecc_to
  backward_right v l =
      if_any_iff (Has (λ u. f u v) (stops n)) (λ d. (u : ℕ) × Pair u v d) (λ d h. (h.0, pairs.holds h.0 v d (stop_below n h.0 h.1) l h.2))
      (λ d h. let p = pairs.told h.0 v d h.1 in (h.0, below_stop n h.0 p.0, p.2)) (greatest_of (λ u. f u v) (stops n)) (greatest_of_all (λ u. f u v) (stops n))

  pub forward_right : (u : ℕ) → u < n → Forward Pair u (ecc_from f n u)
  unfolding ecc_from
  forward_right u l =
      if_any_iff (Has (λ v. f u v) (stops n)) (λ d. (v : ℕ) × Pair u v d) (λ d h. (h.0, pairs.holds u h.0 d l (stop_below n h.0 h.1) h.2))
      (λ d h. let p = pairs.told u h.0 d h.1 in (h.0, below_stop n h.0 p.1, p.2)) (greatest_of (λ v. f u v) (stops n)) (greatest_of_all (λ v. f u v) (stops n))
