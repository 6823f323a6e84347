-- Each definition leaves one possible figure.
use Rattle.std.specs.Prelude.{ℕ, zero, suc, ◌+◌, ◌*◌, ◌/◌, ◌%◌, ◌≤◌, ◌<◌, max, ◌≡◌, refl, get_or}
use Rattle.std.proofs.Common.{ap, sym, ◌∙◌, subst, inl, inr, arith, div-add-mod', mod-lt, div-lt_iff_lt-mul, ext_get_or}
use mathlib.Core.List.Memᴰ
use mathlib.Core.List.{List, [], ◌∷◌, Memᴰ}
use Rattle.std.proofs.Math.Option.{Option, none, some}
use Rattle.std.proofs.Math.Decide.{dec_lt}
use Rattle.rules.specs.Words.{Least, Greatest, GreatestIfAny}
use Rattle.rules.specs.Clock.{horizon}
use Rattle.rules.specs.Day.{Row, Faulty, Day, Ask}
use Rattle.rules.specs.Routes.{Dist, after, Compatible, Distance, itself, reached, no_route, Earliest, in_numbers}
use Rattle.rules.specs.Eccentricity.{Backward}
use Rattle.rules.specs.Diameter.{Before, bound_falls, number_rises, Sorted, sorted_more, Targets, counted, Visits, at_end, stop, visit, First, here, further, Shown, NoneShown}
use Rattle.rules.specs.Table.{Check, Takes, table, office_table, Clear, Refuses}
use Rattle.rules.specs.Lent.{Fills, Wiped, Stands}
use Rattle.rules.specs.Figures.{TableOf}

pub least_single : {P : ℕ → Type 0} {x y : ℕ} → Least P x → Least P y → x ≡ y
least_single {x = x} {y = y} h k = omega (arith, h.least y k.holds, k.least x h.holds)

-- the first faulty row is one
pub first_fault_single : {n : ℕ} {rs : List Row} {i j : ℕ} → Least (Faulty n rs) i → Least (Faulty n rs) j → i ≡ j
first_fault_single = least_single

pub greatest_single : {P : ℕ → Type 0} {x y : ℕ} → Greatest P x → Greatest P y → x ≡ y
greatest_single {x = x} {y = y} h k = omega (arith, h.greatest y k.holds, k.greatest x h.holds)

pub if_any_single : (P : ℕ → Type 0) (x y : Option ℕ) → GreatestIfAny P x → GreatestIfAny P y → x ≡ y
if_any_single P none none h k = refl
if_any_single P none (some y) h k = absurd (h y k.holds)
if_any_single P (some x) none h k = absurd (k x h.holds)
if_any_single P (some x) (some y) h k = ap some (greatest_single h k)

pub distance_single : {day : Day} {A W u v : ℕ} {cost : Compatible day A W u v → ℕ} {x y : Dist}
    → Distance day A W u v cost x → Distance day A W u v cost y → x ≡ y
distance_single (itself e) (itself f) = refl
distance_single (itself e) (reached n h) = absurd (n e)
distance_single (itself e) (no_route n h) = absurd (n e)
distance_single (reached n h) (itself e) = absurd (n e)
distance_single (reached n h) (reached m k) = ap after (least_single h k)
distance_single (reached n h) (no_route m k) = absurd (k h.holds.0)
distance_single (no_route n h) (itself e) = absurd (n e)
distance_single (no_route n h) (reached m k) = absurd (h k.holds.0)
distance_single (no_route n h) (no_route m k) = refl

-- what is written

pub stands_single : {day : Day} {A W u v x y : ℕ} → Stands day A W u v x → Stands day A W u v y → x ≡ y
stands_single h k = h.as_number ∙ ap in_numbers (distance_single h.is k.is) ∙ sym k.as_number

pub fills_single : {k : ℕ} {Right : ℕ → ℕ → Type 0} {old new new' : List ℕ} → ((i x y : ℕ) → i < k → Right i x → Right i y → x ≡ y)
    → Fills k Right old new → Fills k Right old new' → new ≡ new'
fills_single {k} {Right} {old} {new} {new'} one h g = ext_get_or 0 new new' (h.same_length ∙ sym g.same_length) (λ i l. go i (dec_lt i k))
  where
    go : (i : ℕ) → Dec (i < k) → get_or new i 0 ≡ get_or new' i 0
    go i (yes l) = one i (get_or new i 0) (get_or new' i 0) l (h.right i l) (g.right i l)
    go i (no l) = h.kept i (omega arith) ∙ sym (g.kept i (omega arith))

pub wiped_single : {old new new' : List ℕ} → Wiped old new → Wiped old new' → new ≡ new'
wiped_single = fills_single (λ i x y l e f. e ∙ sym f)

pub stretch_single : (q : Ask) (i x y : ℕ) → i < q.n * q.n → TableOf q i x → TableOf q i y → x ≡ y
stretch_single q i x y l h k = go n refl
  where
    n : ℕ
    n = q.n

    go : (m : ℕ) → n ≡ m → x ≡ y
    go zero e = absurd (omega (arith, subst (λ (z : ℕ). i < z * z) e l))
    go (suc m) e =
        let pos : 0 < n = omega arith in
        let u : i / n < n = (div-lt_iff_lt-mul pos).1 l in
        let v : i % n < n = mod-lt i pos in
        let p : i ≡ i / n * n + i % n = sym (div-add-mod' i n) in
        stands_single (h (i / n) (i % n) u v p) (k (i / n) (i % n) u v p)

-- the order of targets, the visits and the pair

module _ {Bound : ℕ → ℕ → Type 0} (one : (v b c : ℕ) → Bound v b → Bound v c → b ≡ c) where
  pub before_once : {v w : ℕ} → Before Bound v w → Before Bound w v → ⊥
  before_once {v} {w} (bound_falls p q l) (bound_falls s t m) = omega (arith, one v _ _ p t, one w _ _ q s)
  before_once {v} {w} (bound_falls p q l) (number_rises s t m) = omega (arith, one v _ _ p t, one w _ _ q s)
  before_once {v} {w} (number_rises p q l) (bound_falls s t m) = omega (arith, one v _ _ p t, one w _ _ q s)
  before_once {v} {w} (number_rises p q l) (number_rises s t m) = omega arith

  sorted_single : (vs ws : List ℕ) → Sorted Bound vs → Sorted Bound ws → ((v : ℕ) → Memᴰ v vs → Memᴰ v ws)
      → ((v : ℕ) → Memᴰ v ws → Memᴰ v vs) → vs ≡ ws
  sorted_single [] [] s t f g = refl
  sorted_single [] (w ∷ ws) s t f g = absurd (Memᴰ.not-nil (g w (Memᴰ.head refl)))
  sorted_single (v ∷ vs) [] s t f g = absurd (Memᴰ.not-nil (f v (Memᴰ.head refl)))
  sorted_single (v ∷ vs) (w ∷ ws) (sorted_more a s) (sorted_more b t) f g =
      ends (sorted_single vs ws s t
      (λ z m. inner m (f z (Memᴰ.tail m)))
      (λ z m. inner' m (g z (Memᴰ.tail m))))
    where
      heads : Memᴰ v (w ∷ ws) → Memᴰ w (v ∷ vs) → v ≡ w
      heads (Memᴰ.head e) y = e
      heads (Memᴰ.tail m) (Memᴰ.head e) = sym e
      heads (Memᴰ.tail m) (Memᴰ.tail m') = absurd (before_once (a w m') (b v m))

      same : v ≡ w
      same = heads (f v (Memᴰ.head refl)) (g w (Memᴰ.head refl))

      inner : {z : ℕ} → Memᴰ z vs → Memᴰ z (w ∷ ws) → Memᴰ z ws
      inner {z} m (Memᴰ.head e) = let h : Before Bound v z = a z m in let k : Before Bound v v = subst (Before Bound v) (e ∙ sym same) h in absurd (before_once k k)
      inner m (Memᴰ.tail x) = x

      inner' : {z : ℕ} → Memᴰ z ws → Memᴰ z (v ∷ vs) → Memᴰ z vs
      inner' {z} m (Memᴰ.head e) = let h : Before Bound w z = b z m in let k : Before Bound w w = subst (Before Bound w) (e ∙ same) h in absurd (before_once k k)
      inner' m (Memᴰ.tail x) = x

      ends : vs ≡ ws → v ∷ vs ≡ w ∷ ws
      ends e = cc (same)

  pub targets_single : {vs ws : List ℕ} → Targets Bound vs → Targets Bound ws → vs ≡ ws
  targets_single {vs} {ws} h k =
      sorted_single vs ws h.sorted k.sorted (λ v m. (k.bounded v).1 ((h.bounded v).0 m)) (λ v m. (h.bounded v).1 ((k.bounded v).0 m))

  module _ {Pair : ℕ → ℕ → ℕ → Type 0} where
    pub visits_single : {vs : List ℕ} {best k l : ℕ} → Visits Pair Bound vs best k → Visits Pair Bound vs best l → k ≡ l
    visits_single at_end at_end = refl
    visits_single (stop p a) (stop q b) = refl
    visits_single (stop {v = v} p a) (visit e q b f y) = absurd (omega (arith, one v _ _ p q))
    visits_single (visit {v = v} e p a f x) (stop q b) = absurd (omega (arith, one v _ _ p q))
    visits_single (visit {v = v} {best = best} {vs = vs} e p a f x) (visit {k = l} e' q b f' y) =
        ap suc (visits_single x (subst (λ (z : Option ℕ). Visits Pair Bound vs (max best (counted z)) l) (if_any_single (λ d. (u : ℕ) × Pair u v d) e' e f' f) y))

first_single : {P : ℕ → Type 0} {vs : List ℕ} {v w : ℕ} → First P vs v → First P vs w → v ≡ w
first_single (here p) (here q) = refl
first_single (here p) (further n y) = absurd (n p)
first_single (further n x) (here q) = absurd (n q)
first_single (further n x) (further m y) = first_single x y

module _ {Pair : ℕ → ℕ → ℕ → Type 0} {Bound : ℕ → ℕ → Type 0} (one : (v b c : ℕ) → Bound v b → Bound v c → b ≡ c) where
  pub shown_single : {d u v k d' u' v' k' : ℕ} → Shown Pair Bound d u v k → Shown Pair Bound d' u' v' k' → (d ≡ d') × (u ≡ u') × (v ≡ v') × (k ≡ k')
  shown_single {d} {u} {v} {k} {d'} {u'} {v'} {k'} h g = (same_d, same_u, same_v, same_k)
    where
      same_order : g.order ≡ h.order
      same_order = targets_single one g.targets h.targets

      same_d : d ≡ d'
      same_d = greatest_single h.greatest g.greatest

      same_k : k ≡ k'
      same_k = visits_single one h.taken (subst (λ (o : List ℕ). Visits Pair Bound o 0 k') same_order g.taken)

      first : First (λ v. Backward Pair v (some d)) h.order v'
      first = subst (λ (o : List ℕ). First (λ v. Backward Pair v (some d)) o v') same_order (subst (λ (z : ℕ). First (λ v. Backward Pair v (some z)) g.order v') (sym same_d) g.target)

      same_v : v ≡ v'
      same_v = first_single h.target first

      source : Least (λ u. Pair u v d) u'
      source = subst (λ (z : ℕ). Least (λ u. Pair u z d) u') (sym same_v) (subst (λ (z : ℕ). Least (λ u. Pair u v' z) u') (sym same_d) g.source)

      same_u : u ≡ u'
      same_u = least_single h.source source

  pub none_single : {k k' : ℕ} → NoneShown Pair Bound k → NoneShown Pair Bound k' → k ≡ k'
  none_single {k} {k'} h g =
      visits_single one h.taken (subst (λ (o : List ℕ). Visits Pair Bound o 0 k') (targets_single one g.targets h.targets) g.taken)

  pub shown_or_none : {d u v k k' : ℕ} → Shown Pair Bound d u v k → NoneShown Pair Bound k' → ⊥
  shown_or_none {d = d} h g = let p = h.greatest.holds in g.nobody p.0 p.1 d p.2

-- refusals

pub clear_or_refused : (cs : List Check) (k p : ℕ) → Clear cs → Refuses cs k p → ⊥
clear_or_refused (c ∷ cs) k p h (inl x) = h.0 p x.1
clear_or_refused (c ∷ cs) k p h (inr x) = clear_or_refused cs k p h.1 x.1
clear_or_refused [] k p h x'' = elim x'' [ ]

-- each check is given with one place
abbrev pub OnePlace : List Check → Type 0
OnePlace [] = Unit {0}
OnePlace (c ∷ cs) = ((p q : ℕ) → c.given p → c.given q → p ≡ q) × OnePlace cs

pub refusal_single : (cs : List Check) → OnePlace cs → (k p k' p' : ℕ) → Refuses cs k p → Refuses cs k' p' → (k ≡ k') × (p ≡ p')
refusal_single (c ∷ cs) s k p k' p' (inl x) (inl y) = (x.0 ∙ sym y.0, s.0 p p' x.1 y.1)
refusal_single (c ∷ cs) s k p k' p' (inl x) (inr y) = absurd (y.0 p x.1)
refusal_single (c ∷ cs) s k p k' p' (inr x) (inl y) = absurd (x.0 p' y.1)
refusal_single (c ∷ cs) s k p k' p' (inr x) (inr y) = refusal_single cs s.1 k p k' p' x.1 y.1
refusal_single [] s k p k' p' x3 _ = elim x3 [ ]

pub zero_place : {P : Type 0} (p q : ℕ) → (p ≡ 0) × P → (q ≡ 0) × P → p ≡ q
zero_place p q h k = h.0 ∙ sym k.0

pub table_one_place : (q : Ask) (t : Takes) → OnePlace (table q t)
table_one_place q t = (
  zero_place,
  (
    zero_place,
    (
      zero_place,
      (
        zero_place,
        (
          zero_place,
          (
            λ i j h k. least_single h k,
            (zero_place, (zero_place, (λ i j h k. least_single h k, (zero_place, (zero_place, tt))))),
          ),
        ),
      ),
    ),
  ),
)

pub office_one_place : (list : List ℕ) (n : ℕ) → OnePlace (office_table list n)
office_one_place list n =
    (zero_place, (zero_place, (zero_place, (λ i j h k. least_single h.first k.first, (λ i j h k. least_single h.first k.first, tt)))))

-- a distance lies within the day, so its number is never that of unreached
pub distance_in_day : {day : Day} {A W u v d : ℕ} → W ≤ horizon → Earliest day A W u v (after d) → d ≤ horizon
distance_in_day wh (itself e) = omega arith
distance_in_day wh (reached ne l) = omega (arith, l.holds.1, l.holds.0.ends)
