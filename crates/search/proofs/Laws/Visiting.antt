-- Visiting targets in order, with a state by value, finds the greatest distance, its pair and the count of visits.
use Rattle.std.specs.Prelude.{ℕ, suc, ◌+◌, ◌≤◌, ◌<◌, max, ◌≡◌, ◌≢◌, Bool, true, false, cond, eqb, leb}
use Rattle.std.proofs.Math.Path.{refl}
use Rattle.std.proofs.Common.{ap, sym, ◌∙◌, arith, eqb-true, leb-true, leb-false, le-leb}
use mathlib.Core.List.Memᴰ
use mathlib.Core.List.{List, [], ◌∷◌, Memᴰ}
use Rattle.std.proofs.Math.Option.{Option, none, some}
use Rattle.std.proofs.Math.Decide.{ℕ_discrete}
use Rattle.std.proofs.lemmas.Bool.{eqb-false}
use Rattle.rules.specs.Words.{Least, Greatest}
use Rattle.rules.specs.Eccentricity.{Backward}
use Rattle.rules.specs.Diameter.{Before, bound_falls, number_rises, Sorted, sorted_more, counted, Visits, First, here, further}
use Rattle.rules.proofs.Laws.Single.{greatest_single, least_single}
use Rattle.rules.proofs.Laws.Skipped.{first_member}
use Rattle.search.specs.declared.far.Far.{Far}
use Rattle.search.specs.declared.state.Search.{Search}
use Rattle.search.specs.Visits.{begun, visited, stops_at}
use Rattle.search.proofs.Laws.Greatest.{each_cons}
use Rattle.search.proofs.Laws.Order.{order, stops_low, taken, TellsBounds, TargetBelow, order_target, order_right, taken_right}
use Rattle.search.specs.Found.{Right}

-- the eccentricity of v: none where it is 0, else the greatest distance to v, with its lowest source
pub record IsFar (Pair : ℕ → ℕ → ℕ → Type 0) (v : ℕ) (x : Far) : Type 0 where
  pub nobody : x.value ≡ 0 → (u d : ℕ) → Pair u v d → ⊥
  pub greatest : x.value ≢ 0 → Greatest (λ d. (u : ℕ) × Pair u v d) x.value
  pub lowest : x.value ≢ 0 → Least (λ u. Pair u v x.value) x.source

-- the targets of a list visited one after another, until the stop or the end
unfoldable pub run : (ℕ → Option ℕ) → (ℕ → Far) → List ℕ → Search → Search
run g far [] st = st
run g far (v ∷ vs) st = let more = run g far vs (visited v (far v) st) in cond (stops_at (counted (g v)) st.best) st more

-- none counts 0
abbrev pub ecc_of : Far → Option ℕ
ecc_of x = cond (eqb x.value 0) none (some x.value)

counted_ecc : (x : Far) → counted (ecc_of x) ≡ x.value
counted_ecc x = go (eqb x.value 0) refl
  where
    go : (b : Bool) → eqb x.value 0 ≡ b → counted (cond b none (some x.value)) ≡ x.value
    go true e = sym (eqb-true x.value 0 e)
    go false e = refl

-- one visit: the best value is held or beaten
pub data Visited (v : ℕ) (x : Far) (st : Search) : Search → Type 0 where
  held : {k : ℕ} → x.value ≤ st.best → Visited v x st (record { best = st.best; source = st.source; target = st.target; visits = k })
  beats : {k : ℕ} → st.best < x.value → Visited v x st (record { best = x.value; source = x.source; target = v; visits = k })

visit_did : (v : ℕ) (x : Far) (st : Search) → Visited v x st (visited v x st)
unfolding visited
visit_did v x st = go (leb x.value st.best) refl
  where
    go : (b : Bool) → leb x.value st.best ≡ b
        → Visited v x st (cond b (record { best = st.best; source = st.source; target = st.target; visits = st.visits + 1 }) (record { best = x.value; source = x.source; target = v; visits = st.visits + 1 }))
    go true e = held (leb-true _ _ e)
    go false e = beats (leb-false _ _ e)

visit_best : (v : ℕ) (x : Far) (st : Search) → (visited v x st).best ≡ max st.best x.value
visit_best v x st = go (visit_did v x st)
  where
    go : {st' : Search} → Visited v x st st' → st'.best ≡ max st.best x.value
    go (held l) = omega arith
    go (beats l) = omega arith

pub visit_counts : (v : ℕ) (x : Far) (st : Search) → (visited v x st).visits ≡ st.visits + 1
unfolding visited
visit_counts v x st = go (leb x.value st.best)
  where
    go : (b : Bool)
        → (cond {A = Search} b (record { best = st.best; source = st.source; target = st.target; visits = st.visits + 1 }) (record { best = x.value; source = x.source; target = v; visits = st.visits + 1 })).visits ≡ st.visits + 1
    go true = refl
    go false = refl

-- the count is the definition's
run_visits : (g : ℕ → Option ℕ) (far : ℕ → Far) (vs : List ℕ) (st : Search) → (run g far vs st).visits ≡ st.visits + taken g (λ v. ecc_of (far v)) vs st.best
unfolding run taken
run_visits g far [] st = omega arith
run_visits g far (v ∷ vs) st = go (stops_at (counted (g v)) st.best) (run_visits g far vs (visited v (far v) st))
  where
    next : max st.best (counted (ecc_of (far v))) ≡ (visited v (far v) st).best
    next = ap (max st.best) (counted_ecc (far v)) ∙ sym (visit_best v (far v) st)

    go : (b : Bool) → (run g far vs (visited v (far v) st)).visits ≡ (visited v (far v) st).visits + taken g (λ v. ecc_of (far v)) vs (visited v (far v) st).best
        → (cond b st (run g far vs (visited v (far v) st))).visits
        ≡ st.visits + cond b 0 (suc (taken g (λ v. ecc_of (far v)) vs (max st.best (counted (ecc_of (far v))))))
    go true r = omega arith
    go false r = rw next (omega (arith, r, visit_counts v (far v) st))

-- what a run comes to
pub data Came (far : ℕ → Far) (st : Search) (vs : List ℕ) (st' : Search) : Type 0 where
  stays : st'.best ≡ st.best → st'.source ≡ st.source → st'.target ≡ st.target → ((q : ℕ) → Memᴰ q vs → (far q).value ≤ st.best) → Came far st vs st'
  beaten : (v : ℕ) → st'.target ≡ v → st'.source ≡ (far v).source → st'.best ≡ (far v).value → st.best < (far v).value
      → First (λ q. (far q).value ≡ (far v).value) vs v → ((q : ℕ) → Memᴰ q vs → (far q).value ≤ (far v).value) → Came far st vs st'

module _ {Bound : ℕ → ℕ → Type 0} (n : ℕ) (g : ℕ → Option ℕ) (bounds : TellsBounds n g Bound) (far : ℕ → Far) where
  no_later : (v q : ℕ) → Before Bound v q → counted (g q) ≤ counted (g v)
  no_later v q (bound_falls {b = b} {c = c} x y l) = rw ((bounds.told v b x).1, (bounds.told q c y).1) (omega arith)
  no_later v q (number_rises {b = b} x y l) = rw ((bounds.told v b x).1, (bounds.told q b y).1) (omega arith)

  came : (vs : List ℕ) (st : Search) → Sorted Bound vs → ((q : ℕ) → Memᴰ q vs → (far q).value ≤ counted (g q)) → Came far st vs (run g far vs st)
  unfolding run
  came [] st s k = stays refl refl refl (λ q m. absurd (Memᴰ.not-nil m))
  came (v ∷ vs) st (sorted_more up s) k =
      go (stops_at (counted (g v)) st.best) refl (came vs (visited v (far v) st) s (λ q m. k q (Memᴰ.tail m)))
    where
      next : {st' fin : Search} → Visited v (far v) st st' → Came far st' vs fin → Came far st (v ∷ vs) fin
      next (held h) (stays e i j l) = stays e i j (each_cons (λ q. (far q).value ≤ st.best) h l)
      next (held h) (beaten w t u b x f l) =
          beaten w t u b x (further (λ (e : (far v).value ≡ (far w).value). omega arith) f) (each_cons (λ q. (far q).value ≤ (far w).value) (omega arith) l)
      next (beats h) (stays e i j l) = beaten v j i e h (here refl) (each_cons (λ q. (far q).value ≤ (far v).value) (omega arith) l)
      next (beats h) (beaten w t u b x f l) =
          beaten w t u b (omega arith) (further (λ (e : (far v).value ≡ (far w).value). omega arith) f) (each_cons (λ q. (far q).value ≤ (far w).value) (omega arith) l)

      go : (b : Bool) → stops_at (counted (g v)) st.best ≡ b → Came far (visited v (far v) st) vs (run g far vs (visited v (far v) st))
          → Came far st (v ∷ vs) (cond b st (run g far vs (visited v (far v) st)))
      go true e r =
          stays refl refl refl
          (each_cons (λ q. (far q).value ≤ st.best) (omega (arith, stops_low (counted (g v)) st.best e, k v (Memᴰ.head refl)))
          (λ q m. omega (arith, stops_low (counted (g v)) st.best e, no_later v q (up q m), k q (Memᴰ.tail m))))
      go false e r = next (visit_did v (far v) st) r

module _ {Pair : ℕ → ℕ → ℕ → Type 0} {Bound : ℕ → ℕ → Type 0} (n : ℕ) (g : ℕ → Option ℕ) (bounds : TellsBounds n g Bound)
    (far : ℕ → Far) (right : (v : ℕ) → v < n → IsFar Pair v (far v)) (positive : (u v d : ℕ) → Pair u v d → 1 ≤ d)
    (bounded : (u v d : ℕ) → Pair u v d → (b : ℕ) × Bound v b × (d ≤ b)) where
  ecc_right : (v : ℕ) → v < n → Backward Pair v (ecc_of (far v))
  ecc_right v l = go (eqb (far v).value 0) refl (right v l)
    where
      go : (b : Bool) → eqb (far v).value 0 ≡ b → IsFar Pair v (far v) → Backward Pair v (cond b none (some (far v).value))
      go true e r = λ d p. r.nobody (eqb-true (far v).value 0 e) p.0 d p.1
      go false e r = r.greatest (eqb-false (far v).value 0 e)

  -- a target's eccentricity is at most its bound
  within : (v : ℕ) → TargetBelow g n v → (far v).value ≤ counted (g v)
  within v t = go (ℕ_discrete (far v).value 0)
    where
      go : Dec ((far v).value ≡ 0) → (far v).value ≤ counted (g v)
      go (yes e) = omega arith
      go (no e) =
          let h = (right v t.0).greatest e in
          let b = bounded h.holds.0 v (far v).value h.holds.1 in
          rw (bounds.told v b.0 b.1).1 b.2

  -- a pair's distance is at most its target's eccentricity, and its target is in the order
  below_far : (u v d : ℕ) → Pair u v d → d ≤ (far v).value
  below_far u v d p =
      let b = bounded u v d p in
      let l : v < n = (bounds.told v b.0 b.1).0 in
      go l (ℕ_discrete (far v).value 0)
    where
      go : v < n → Dec ((far v).value ≡ 0) → d ≤ (far v).value
      go l (yes e) = absurd ((right v l).nobody e u d p)
      go l (no e) = ((right v l).greatest e).greatest d (u, p)

  listed : (u v d : ℕ) → Pair u v d → Memᴰ v (order g n)
  listed u v d p = let b = bounded u v d p in ((order_right n g bounds).bounded v).1 (b.0, b.1)

  pub run_right : Right Pair Bound (run g far (order g n) begun)
  run_right = go (run g far (order g n) begun) (run_visits g far (order g n) begun) (came n g bounds far (order g n) begun (order_right n g bounds).sorted (λ q m. within q (order_target g n q m)))
    where
      all : Visits Pair Bound (order g n) 0 (taken g (λ v. ecc_of (far v)) (order g n) 0)
      all = taken_right n g bounds (λ v. ecc_of (far v)) ecc_right (order g n) 0 (order_target g n)

      count : (k : ℕ) → k ≡ 0 + taken g (λ v. ecc_of (far v)) (order g n) 0 → Visits Pair Bound (order g n) 0 k
      count k e = let same : k ≡ taken g (λ v. ecc_of (far v)) (order g n) 0 = omega arith in rw same all

      first_of : {d : ℕ} {vs : List ℕ} {v : ℕ} → d ≢ 0 → ((q : ℕ) → Memᴰ q vs → q < n) → First (λ q. (far q).value ≡ d) vs v → First (λ q. Backward Pair q (some d)) vs v
      first_of {d} {v = v} ne l (here e) = here {v = v} (rw (← e) ((right v (l v (Memᴰ.head refl))).greatest (λ z. ne (sym e ∙ z))))
      first_of {d} ne l (further {v = w} no_w f) = further (λ b. no_w (value b)) (first_of ne (λ q m. l q (Memᴰ.tail m)) f)
        where
          value : Backward Pair w (some d) → (far w).value ≡ d
          value b = more (ℕ_discrete (far w).value 0)
            where
              more : Dec ((far w).value ≡ 0) → (far w).value ≡ d
              more (yes e) = absurd ((right w (l w (Memᴰ.head refl))).nobody e b.holds.0 d b.holds.1)
              more (no e) = greatest_single ((right w (l w (Memᴰ.head refl))).greatest e) b

      go : (st : Search) → st.visits ≡ 0 + taken g (λ v. ecc_of (far v)) (order g n) 0 → Came far begun (order g n) st → Right Pair Bound st
      go st e (stays b s t l) =
          record {
            none_shown =
                λ z.
                record {
                  nobody = λ u v d p. omega (arith, positive u v d p, below_far u v d p, l v (listed u v d p));
                  order = order g n;
                  targets = order_right n g bounds;
                  taken = count st.visits e;
                };
            shown = λ z. absurd (z b);
          }
      go st e (beaten v t s b x f l) =
          let ne : (far v).value ≢ 0 = omega arith in
          let vn : v < n = (order_target g n v (first_member f)).0 in
          let r : IsFar Pair v (far v) = right v vn in
          record {
            none_shown = λ z. absurd (omega arith);
            shown =
                λ z.
                rw (b, s, t)
                (record {
                  greatest =
                      record {
                        holds = ((r.greatest ne).holds.0, v, (r.greatest ne).holds.1);
                        greatest = λ d p. omega (arith, below_far p.0 p.1 d p.2, l p.1 (listed p.0 p.1 d p.2));
                      };
                  order = order g n;
                  targets = order_right n g bounds;
                  taken = count st.visits e;
                  target = first_of ne (λ q m. (order_target g n q m).0) f;
                  source = r.lowest ne;
                });
          }

-- two farthest sources of one target leave the same state: where the value is 0 no source is kept
pub visit_same : {Pair : ℕ → ℕ → ℕ → Type 0} (v : ℕ) (x y : Far) (st : Search) → IsFar Pair v x → IsFar Pair v y → visited v x st ≡ visited v y st
unfolding visited
visit_same {Pair} v x y st h k = go (ℕ_discrete x.value 0) (ℕ_discrete y.value 0)
  where
    zero_held : (z : Far) → z.value ≡ 0 → visited v z st ≡ record { best = st.best; source = st.source; target = st.target; visits = st.visits + 1 }
    zero_held z e = rw (le-leb z.value st.best (omega arith))

    go : Dec (x.value ≡ 0) → Dec (y.value ≡ 0) → visited v x st ≡ visited v y st
    go (yes a) (yes b) = zero_held x a ∙ sym (zero_held y b)
    go (yes a) (no b) = let p = (k.greatest b).holds in absurd (h.nobody a p.0 y.value p.1)
    go (no a) (yes b) = let p = (h.greatest a).holds in absurd (k.nobody b p.0 x.value p.1)
    go (no a) (no b) =
        let e : x.value ≡ y.value = greatest_single (h.greatest a) (k.greatest b) in
        let l : Least (λ u. Pair u v x.value) y.source = rw e (k.lowest b) in
        let f : x.source ≡ y.source = least_single (h.lowest a) l in
        rw (e, f)
