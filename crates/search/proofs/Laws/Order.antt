-- The targets in order, and how many of them are taken.
use Prim.Native.Nat.{ℕ, zero, suc, ◌≤◌, ◌<◌, max}
use Rattle.std.specs.Prelude.{◌≡◌, Bool, true, false, cond, leb, length}
use Rattle.std.proofs.Math.Path.{refl}
use Rattle.std.proofs.Common.{ap, sym, ◌∙◌, arith, leb-true, leb-false}
use mathlib.Core.List.Memᴰ
use mathlib.Core.List.{List, [], ◌∷◌, Memᴰ}
use Rattle.std.proofs.Math.Option.{Option, none, some}
use Rattle.std.proofs.Math.Decide.{ℕ_discrete, dec_lt}
use Rattle.rules.specs.Eccentricity.{Backward}
use Rattle.rules.specs.Diameter.{Before, bound_falls, number_rises, Sorted, sorted_none, sorted_more, Targets, counted, Visits, at_end, stop, visit}
use Rattle.search.specs.Visits.{stops_at}
use Rattle.search.proofs.Laws.Greatest.{not_none, some_same, each_cons}

-- whether a stop with the first bound stays before a later stop with the second: an equal bound does
abbrev pub ahead : Option ℕ → Option ℕ → Bool
ahead none y = false
ahead (some x) none = true
ahead (some x) (some y) = leb y x

-- stop k put among targets of lower numbers
unfoldable pub insert : (ℕ → Option ℕ) → ℕ → List ℕ → List ℕ
insert g k [] = k ∷ []
insert g k (q ∷ qs) = let rest = q ∷ insert g k qs in cond (ahead (g q) (g k)) rest (k ∷ q ∷ qs)

-- the first list where there is a bound, else the second
abbrev pub with_bound : Option ℕ → List ℕ → List ℕ → List ℕ
with_bound none x y = y
with_bound (some b) x y = x

-- the stops below k that have a bound, in order
unfoldable pub order : (ℕ → Option ℕ) → ℕ → List ℕ
order g zero = []
order g (suc k) = let o = order g k in with_bound (g k) (insert g k o) o

-- where the search stops the bound is not greater than the best value, and where it goes on it is
pub stops_low : (b best : ℕ) → stops_at b best ≡ true → b ≤ best
stops_low b best e = omega (arith, leb-true)

goes_on_high : (b best : ℕ) → stops_at b best ≡ false → best < b
goes_on_high b best e = omega (arith, leb-false)

-- how many of the targets are taken, from a best value on
unfoldable pub taken : (ℕ → Option ℕ) → (ℕ → Option ℕ) → List ℕ → ℕ → ℕ
taken g ecc [] best = 0
taken g ecc (v ∷ vs) best = let more = suc (taken g ecc vs (max best (counted (ecc v)))) in cond (stops_at (counted (g v)) best) 0 more

-- a target below k
abbrev pub TargetBelow : (ℕ → Option ℕ) → (k q : ℕ) → Type 0
TargetBelow g k q = (q < k) × ((b : ℕ) × (g q ≡ some b))

-- g tells the bounds of n stops
pub record TellsBounds (n : ℕ) (g : ℕ → Option ℕ) (Bound : ℕ → ℕ → Type 0) : Type 0 where
  pub told : (v b : ℕ) → Bound v b → (v < n) × (g v ≡ some b)
  pub holds : (v b : ℕ) → v < n → g v ≡ some b → Bound v b

pub tells_same : {Bound : ℕ → ℕ → Type 0} (n : ℕ) (g h : ℕ → Option ℕ) → ((v : ℕ) → v < n → h v ≡ g v) → TellsBounds n g Bound → TellsBounds n h Bound
tells_same n g h same t =
    record { told = λ v b k. let x = t.told v b k in (x.0, same v x.0 ∙ x.1); holds = λ v b l e. t.holds v b l (sym (same v l) ∙ e) }

insert_each : (g : ℕ → Option ℕ) (P : ℕ → Type 0) (k : ℕ) (qs : List ℕ) → P k → ((q : ℕ) → Memᴰ q qs → P q) → (q : ℕ) → Memᴰ q (insert g k qs) → P q
unfolding insert
insert_each g P k [] h l = each_cons P h l
insert_each g P k (p ∷ qs) h l = go (ahead (g p) (g k)) (insert_each g P k qs h (λ q m. l q (Memᴰ.tail m)))
  where
    go : (b : Bool) → ((q : ℕ) → Memᴰ q (insert g k qs) → P q) → (q : ℕ) → Memᴰ q (cond b (p ∷ insert g k qs) (k ∷ p ∷ qs)) → P q
    go true r = each_cons P (l p (Memᴰ.head refl)) r
    go false r = each_cons P h l

insert_here : (g : ℕ → Option ℕ) (k : ℕ) (qs : List ℕ) → Memᴰ k (insert g k qs)
unfolding insert
insert_here g k [] = Memᴰ.head refl
insert_here g k (p ∷ qs) = go (ahead (g p) (g k)) (insert_here g k qs)
  where
    go : (b : Bool) → Memᴰ k (insert g k qs) → Memᴰ k (cond b (p ∷ insert g k qs) (k ∷ p ∷ qs))
    go true r = Memᴰ.tail r
    go false r = Memᴰ.head refl

insert_keeps : (g : ℕ → Option ℕ) (k : ℕ) (qs : List ℕ) (q : ℕ) → Memᴰ q qs → Memᴰ q (insert g k qs)
unfolding insert
insert_keeps g k (p ∷ qs) q m = go (ahead (g p) (g k)) m (λ x. insert_keeps g k qs q x)
  where
    go : (b : Bool) → Memᴰ q (p ∷ qs) → (Memᴰ q qs → Memᴰ q (insert g k qs)) → Memᴰ q (cond b (p ∷ insert g k qs) (k ∷ p ∷ qs))
    go true (Memᴰ.head e) r = Memᴰ.head e
    go true (Memᴰ.tail x) r = Memᴰ.tail (r x)
    go false x r = Memᴰ.tail x
insert_keeps g k [] q m = elim m [ ]

insert_length : (g : ℕ → Option ℕ) (k : ℕ) (qs : List ℕ) → length (insert g k qs) ≡ suc (length qs)
unfolding insert
insert_length g k [] = refl
insert_length g k (p ∷ qs) = go (ahead (g p) (g k)) (insert_length g k qs)
  where
    go : (b : Bool) → length (insert g k qs) ≡ suc (length qs) → length (cond b (p ∷ insert g k qs) (k ∷ p ∷ qs)) ≡ suc (suc (length qs))
    go true r = ap suc r
    go false r = refl

-- there are no more targets than stops
pub order_length : (g : ℕ → Option ℕ) (k : ℕ) → length (order g k) ≤ k
unfolding order
order_length g zero = omega arith
order_length g (suc k) = go (g k) (order_length g k)
  where
    go : (o : Option ℕ) → length (order g k) ≤ k → length (with_bound o (insert g k (order g k)) (order g k)) ≤ suc k
    go none l = omega arith
    go (some b) l = omega (arith, insert_length g k (order g k))

pub order_target : (g : ℕ → Option ℕ) (k q : ℕ) → Memᴰ q (order g k) → TargetBelow g k q
unfolding order
order_target g zero q m = absurd (Memᴰ.not-nil m)
order_target g (suc k) q m = go (g k) refl m (order_target g k)
  where
    wider : (x : ℕ) → TargetBelow g k x → TargetBelow g (suc k) x
    wider x t = (omega arith, t.1)

    go : (o : Option ℕ) → g k ≡ o → Memᴰ q (with_bound o (insert g k (order g k)) (order g k))
        → ((x : ℕ) → Memᴰ x (order g k) → TargetBelow g k x) → TargetBelow g (suc k) q
    go none e x r = wider q (r q x)
    go (some b) e x r = insert_each g (TargetBelow g (suc k)) k (order g k) (omega arith, (b, e)) (λ z y. wider z (r z y)) q x

target_order : (g : ℕ → Option ℕ) (k q b : ℕ) → q < k → g q ≡ some b → Memᴰ q (order g k)
unfolding order
target_order g zero q b l e = absurd (omega arith)
target_order g (suc k) q b l e = go (g k) refl (ℕ_discrete q k) (λ h. target_order g k q b h e)
  where
    go : (o : Option ℕ) → g k ≡ o → Dec (q ≡ k) → (q < k → Memᴰ q (order g k)) → Memᴰ q (with_bound o (insert g k (order g k)) (order g k))
    go none x (yes y) r = not_none (ap g y ∙ x) e
    go none x (no y) r = r (omega arith)
    go (some c) x (yes y) r = rw y (insert_here g k (order g k))
    go (some c) x (no y) r = insert_keeps g k (order g k) q (r (omega arith))

module _ {Bound : ℕ → ℕ → Type 0} (n : ℕ) (g : ℕ → Option ℕ) (bounds : TellsBounds n g Bound) where
  -- a target's bound
  its : (q : ℕ) → TargetBelow g n q → (b : ℕ) × Bound q b
  its q t = (t.1.0, bounds.holds q t.1.0 t.0 t.1.1)

  falls_to : (q r a : ℕ) → Before Bound q r → g q ≡ some a → (c : ℕ) × (g r ≡ some c) × Bound r c × (c ≤ a)
  falls_to q r a (bound_falls {b = b} {c = c} x y l) e = (c, (bounds.told r c y).1, y, omega (arith, some_same (bounds.told q b x).1 e))
  falls_to q r a (number_rises {b = b} x y l) e = (b, (bounds.told r b y).1, y, omega (arith, some_same (bounds.told q b x).1 e))

  insert_sorted : (k b : ℕ) → k < n → g k ≡ some b → (qs : List ℕ) → ((q : ℕ) → Memᴰ q qs → TargetBelow g k q) → Sorted Bound qs → Sorted Bound (insert g k qs)
  unfolding insert
  insert_sorted k b kn e [] l s = sorted_more (λ q m. absurd (Memᴰ.not-nil m)) sorted_none
  insert_sorted k b kn e (p ∷ qs) l (sorted_more up s) =
      go (l p (Memᴰ.head refl)) (insert_sorted k b kn e qs (λ q m. l q (Memᴰ.tail m)) s)
    where
      go : TargetBelow g k p → Sorted Bound (insert g k qs) → Sorted Bound (cond (ahead (g p) (g k)) (p ∷ insert g k qs) (k ∷ p ∷ qs))
      go t r = rw (t.1.1, e) (pick (leb b t.1.0) refl)
        where
          a : ℕ
          a = t.1.0

          bp : Bound p a
          bp = bounds.holds p a (omega arith) t.1.1

          bk : Bound k b
          bk = bounds.holds k b kn e

          before : Dec (b < a) → b ≤ a → Before Bound p k
          before (yes x) y = bound_falls bp bk x
          before (no x) y = let z : b ≡ a = omega arith in number_rises bp (rw z at bk) t.0

          pick : (c : Bool) → leb b a ≡ c → Sorted Bound (cond c (p ∷ insert g k qs) (k ∷ p ∷ qs))
          pick true x = sorted_more (insert_each g (Before Bound p) k qs (before (dec_lt b a) (leb-true b a x)) up) r
          pick false x =
              sorted_more
              (each_cons (Before Bound k) (bound_falls bk bp (leb-false b a x)) (λ q m. let y = falls_to p q a (up q m) t.1.1 in bound_falls bk y.2 (omega (arith, leb-false b a x, y.3))))
              (sorted_more up s)

  order_sorted : (k : ℕ) → k ≤ n → Sorted Bound (order g k)
  unfolding order
  order_sorted zero l = sorted_none
  order_sorted (suc k) l = go (g k) refl (order_sorted k (omega arith))
    where
      go : (o : Option ℕ) → g k ≡ o → Sorted Bound (order g k) → Sorted Bound (with_bound o (insert g k (order g k)) (order g k))
      go none e s = s
      go (some b) e s = insert_sorted k b (omega arith) e (order g k) (order_target g k) s

  pub order_right : Targets Bound (order g n)
  order_right =
      record {
        sorted = order_sorted n (omega arith);
        bounded = λ v. (λ m. its v (order_target g n v m), λ b. let x = bounds.told v b.0 b.1 in target_order g n v b.0 x.0 x.1);
      }

  pub taken_right : {Pair : ℕ → ℕ → ℕ → Type 0} (ecc : ℕ → Option ℕ) → ((v : ℕ) → v < n → Backward Pair v (ecc v)) → (vs : List ℕ) (best : ℕ)
      → ((q : ℕ) → Memᴰ q vs → TargetBelow g n q) → Visits Pair Bound vs best (taken g ecc vs best)
  unfolding taken its
  taken_right ecc right [] best l = at_end
  taken_right {Pair} ecc right (v ∷ vs) best l = go (l v (Memᴰ.head refl)) (taken_right ecc right vs (max best (counted (ecc v))) (λ q m. l q (Memᴰ.tail m)))
    where
      go : TargetBelow g n v → Visits Pair Bound vs (max best (counted (ecc v))) (taken g ecc vs (max best (counted (ecc v))))
          → Visits Pair Bound (v ∷ vs) best (cond (stops_at (counted (g v)) best) 0 (suc (taken g ecc vs (max best (counted (ecc v))))))
      go t r = rw t.1.1 (pick (stops_at b best) refl)
        where
          b : ℕ
          b = t.1.0

          pick : (c : Bool) → stops_at b best ≡ c → Visits Pair Bound (v ∷ vs) best (cond c 0 (suc (taken g ecc vs (max best (counted (ecc v))))))
          pick true x = stop (its v t).1 (stops_low b best x)
          pick false x = visit (ecc v) (its v t).1 (goes_on_high b best x) (right v t.0) r
