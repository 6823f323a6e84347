-- The numbers of the pivots tell the bounds under them, and which sources they join to a target.
use Rattle.std.specs.Prelude.{ℕ, zero, suc, ◌-◌, ◌≤◌, ◌<◌, ◌≡◌, ◌≢◌, ◌⊎◌, Bool, not, ◌&&◌, eqb, length, get_or, max, map, filter, fold, unwrap_or}
use Rattle.std.specs.List.{reduce}
use native.Mathlib.Omega.{arith}
use Rattle.std.proofs.Math.Path.{refl, ap}
use Rattle.std.proofs.Common.{sym, ◌∙◌, inl, inr, eqb-true, eq-eqb, ne_eqb}
use Rattle.std.proofs.Math.Bool.{true, false, cond}
use mathlib.Core.List.{List, [], ◌∷◌, ◌++◌, Memᴰ}
use Rattle.std.proofs.Math.Option.{Option, none, some}
use Rattle.std.proofs.lemmas.Bool.{eqb-false}
use Rattle.rules.specs.Words.{At, at_first, at_later}
use Rattle.rules.specs.Clock.{horizon}
use Rattle.rules.specs.Day.{Row}
use Rattle.rules.specs.Routes.{unreached, after, Earliest}
use Rattle.rules.specs.Pivots.{Pivot, Onward, Joined, LatestUnder}
use Rattle.rules.specs.Lent.{Stands}
use Rattle.rules.proofs.Laws.Single.{distance_single}
use Rattle.rules.proofs.Laws.Good.{at_member, at_below}
use Rattle.rules.specs.Faultless.{Good, Sits}
use Rattle.passes.specs.Forward.{nowhere}
use Rattle.passes.specs.Legs.{legs_of}
use Rattle.passes.specs.Pivots.{onward_pivot, into_pivot}
use Rattle.passes.specs.Days.{rows_day}
use Rattle.passes.proofs.Laws.Distance.{since, dist}
use Rattle.passes.proofs.Laws.Reach.{reach_back_right}
use Rattle.passes.proofs.Laws.Onward.{onward_late, onward_is}
use Rattle.search.specs.declared.pivots.PivotNumbers.{PivotNumbers}
use Rattle.search.specs.Pivots.{LaidOut, bound_under, bounds_under, joinsb, joinedb, kept_at, kept_joined}
use Rattle.search.proofs.Laws.Greatest.{greater, greatest_of, not_both}
use Rattle.search.proofs.Laws.Order.{TellsBounds, tells_same}
use Rattle.search.specs.Farthest.{farthest_in}
use Rattle.search.proofs.Laws.Farthest.{farthest_is_far, joined_told}
use Rattle.search.proofs.Laws.Visiting.{IsFar}
use Rattle.search.proofs.Laws.Bounded.{pair_positive}
use Rattle.search.proofs.Laws.Pairs.{from_pivot, under_of, pivot_bound_of, onward_dist, pivot_bounds_told, reached_yes, yes_reached, flip}
use Rattle.search.specs.Found.{ReachedJoined}
use Rattle.search.proofs.Laws.Entered.{if_bound, bound_at, greater_assoc}
use Rattle.search.proofs.Laws.Places.{things_before}
use Rattle.search.proofs.Laws.Some.{some_yes, of_some}

-- thing i of a list, as pivot i of the pivots
pub pivot_at_lem : {A : Type 0} (xs : List A) (i : ℕ) → i < length xs → (x : A) × At xs i x
pivot_at_lem [] i h = absurd (omega arith)
pivot_at_lem (x ∷ xs) zero h = (x, at_first)
pivot_at_lem (x ∷ xs) (suc i) h = let t = pivot_at_lem xs i (omega arith) in (t.0, at_later t.1)

pub at_of : {p : Pivot} {pivots : List Pivot} → Memᴰ p pivots → (i : ℕ) × At pivots i p
at_of (Memᴰ.head {xs = ys} e) = (0, rw e at_first)
at_of (Memᴰ.tail m) = let t = at_of m in (suc t.0, at_later t.1)

-- each pivot has for v the number that f tells, or nowhere
abbrev Telling : (v : ℕ) (f : Pivot → Option ℕ) → List Pivot → List PivotNumbers → Type 0
Telling v f ps xs = (i : ℕ) (p : Pivot) (x : PivotNumbers) → At ps i p → At xs i x → if_bound (get_or x.onward v 0) ≡ f p

-- the greatest of b and the numbers that are reached
greatest_with : (v : ℕ) (f : Pivot → Option ℕ) (ps : List Pivot) (xs : List PivotNumbers) (b : ℕ) → b ≢ nowhere → length xs ≡ length ps → Telling v f ps xs
    → if_bound (fold max b (filter (λ y. not (eqb y nowhere)) (map (λ x. get_or x.onward v 0) xs))) ≡ greater (some b) (greatest_of f ps)
unfolding greatest_of
greatest_with v f [] [] b ne e h = rw (ne_eqb b nowhere ne)
greatest_with v f [] (x ∷ xs) b ne e h = absurd (omega arith)
greatest_with v f (p ∷ ps) [] b ne e h = absurd (omega arith)
greatest_with v f (p ∷ ps) (x ∷ xs) b ne e h = go (eqb y nowhere) refl (h 0 p x at_first at_first) (λ c nc. greatest_with v f ps xs c nc (omega arith) (λ i q z a c. h (suc i) q z (at_later a) (at_later c)))
  where
    y : ℕ
    y = get_or x.onward v 0

    rest : List ℕ
    rest = filter (λ y. not (eqb y nowhere)) (map (λ x. get_or x.onward v 0) xs)

    go : (t : Bool) → eqb y nowhere ≡ t → cond t none (some y) ≡ f p → ((c : ℕ) → c ≢ nowhere → if_bound (fold max c rest) ≡ greater (some c) (greatest_of f ps))
        → if_bound (fold max b (cond (not t) (y ∷ rest) rest)) ≡ greater (some b) (greater (f p) (greatest_of f ps))
    go true k t r = rw (← t) (r b ne)
    go false k t r = rw (← t) (r (max b y) (omega (arith, ne, eqb-false y nowhere k)) ∙ greater_assoc (some b) (some y) (greatest_of f ps))

-- the greatest of the numbers that are reached, or nowhere
greatest_told : (v : ℕ) (f : Pivot → Option ℕ) (ps : List Pivot) (xs : List PivotNumbers) → length xs ≡ length ps → Telling v f ps xs → if_bound (bound_under xs v) ≡ greatest_of f ps
unfolding bound_under greatest_of
greatest_told v f [] [] e h = refl
greatest_told v f [] (x ∷ xs) e h = absurd (omega arith)
greatest_told v f (p ∷ ps) [] e h = absurd (omega arith)
greatest_told v f (p ∷ ps) (x ∷ xs) e h = go (eqb y nowhere) refl (h 0 p x at_first at_first) (greatest_told v f ps xs (omega arith) (λ i q z a c. h (suc i) q z (at_later a) (at_later c)))
  where
    y : ℕ
    y = get_or x.onward v 0

    rest : List ℕ
    rest = filter (λ y. not (eqb y nowhere)) (map (λ x. get_or x.onward v 0) xs)

    go : (t : Bool) → eqb y nowhere ≡ t → cond t none (some y) ≡ f p → if_bound (unwrap_or (reduce max rest) nowhere) ≡ greatest_of f ps
        → if_bound (unwrap_or (reduce max (cond (not t) (y ∷ rest) rest)) nowhere) ≡ greater (f p) (greatest_of f ps)
    go true k t r = rw (← t) r
    go false k t r = rw (← t) (greatest_with v f ps xs y (eqb-false y nowhere k) (omega arith) (λ i q z a c. h (suc i) q z (at_later a) (at_later c)))

data Joining (onward into : ℕ) : Bool → Type 0 where
  it_joins : onward ≢ nowhere → into ≢ 0 → Joining onward into true
  no_target : onward ≡ nowhere → Joining onward into false
  no_source : into ≡ 0 → Joining onward into false

joining : (onward into : ℕ) → Joining onward into (joinsb onward into)
joining onward into = go (eqb onward nowhere) (eqb into 0) refl refl
  where
    go : (a b : Bool) → eqb onward nowhere ≡ a → eqb into 0 ≡ b → Joining onward into (not a && not b)
    go true b e f = no_target (eqb-true _ _ e)
    go false true e f = no_source (eqb-true _ _ f)
    go false false e f = it_joins (eqb-false _ _ e) (eqb-false _ _ f)

module _ (rs : List Row) (A W n : ℕ) (g : Good n rs) (aw : A ≤ W) (wh : W ≤ horizon) (pivots : List Pivot) (sit : (p : Pivot) → Memᴰ p pivots → Sits n A W p) where
  -- a pivot's number for v is v's bound under it
  under_number : (p : Pivot) → Sits n A W p → (v : ℕ) → v < n → if_bound (get_or (onward_pivot n A (legs_of A W rs) p) v 0) ≡ under_of rs A W n v p
  unfolding under_of since
  under_number p s v l =
      go (get_or (onward_pivot n A (legs_of A W rs) p) v 0) (onward_late rs A W n g wh p s v l) (onward_is rs A W n g wh p s v l)
    where
      go : (x : ℕ) → p.reading - A ≤ x → Earliest (rows_day rs) p.reading W p.stop v (since (p.reading - A) x)
          → if_bound x ≡ from_pivot A p.reading (dist rs p.reading W n p.stop v)
      go x low is = rw (distance_single (onward_dist rs A W n g aw wh pivots sit p s v) is) (pick (eqb x nowhere))
        where
          pick : (t : Bool) → cond t none (some x) ≡ from_pivot A p.reading (cond t unreached (after (x - (p.reading - A))))
          pick true = refl
          pick false = ap some (omega (arith, s.not_before))

  -- a list that has the onward numbers of each pivot; those into it do not count here
  module _ (list : List PivotNumbers) (count : length list ≡ length pivots)
      (each : (i : ℕ) (p : Pivot) (x : PivotNumbers) → At pivots i p → At list i x → (v : ℕ) → v < n → get_or x.onward v 0 ≡ get_or (onward_pivot n A (legs_of A W rs) p) v 0) where
    -- the bounds list tells the bounds, whatever stands behind them
    pub bounds_under_told : (t : List ℕ) → TellsBounds n (bound_at (bounds_under list n ++ t)) (LatestUnder (rows_day rs) A W pivots)
    unfolding bound_at pivot_bound_of
    bounds_under_told t =
        tells_same n (pivot_bound_of rs A W n pivots) (bound_at (bounds_under list n ++ t)) same (pivot_bounds_told rs A W n g aw wh pivots sit)
      where
        one : (v : ℕ) → v < n → (i : ℕ) (p : Pivot) (x : PivotNumbers) → At pivots i p → At list i x → if_bound (get_or x.onward v 0) ≡ under_of rs A W n v p
        one v l i p x a b = rw (each i p x a b v l) (under_number p (sit p (at_member a)) v l)

        same : (v : ℕ) → v < n → bound_at (bounds_under list n ++ t) v ≡ pivot_bound_of rs A W n pivots v
        same v l =
            ap if_bound (things_before (bound_under list) n t v l) ∙ greatest_told v (under_of rs A W n v) pivots list count (one v l)

  module _ (list : List PivotNumbers) (laid : LaidOut n pivots (onward_pivot n A (legs_of A W rs)) (into_pivot n A (legs_of A W rs)) list) where
    module _ (u v : ℕ) (un : u < n) (vn : v < n) (ne : u ≢ v) where
      -- the pivot reaches v exactly where its number is not nowhere
      onward_reaches : (p : Pivot) → Sits n A W p → get_or (onward_pivot n A (legs_of A W rs) p) v 0 ≢ nowhere → Onward (rows_day rs) W v p
      unfolding since
      onward_reaches p s h = flip (yes_reached (onward_is rs A W n g wh p s v vn) (rw (ne_eqb (get_or (onward_pivot n A (legs_of A W rs) p) v 0) nowhere h)))

      reaches_onward : (p : Pivot) → Sits n A W p → Onward (rows_day rs) W v p → get_or (onward_pivot n A (legs_of A W rs) p) v 0 ≢ nowhere
      unfolding since
      reaches_onward p s h e =
          not_both (reached_yes (onward_is rs A W n g wh p s v vn) (flip h)) (rw (eq-eqb (get_or (onward_pivot n A (legs_of A W rs) p) v 0) nowhere e))

      -- the test of pivot i
      joins_out : (i : ℕ) (p : Pivot) (x : PivotNumbers) → At pivots i p → At list i x → joinsb (get_or x.onward v 0) (get_or x.into u 0) ≡ true → Joined (rows_day rs) A W pivots u v
      joins_out i p x a b h = go (joining (get_or x.onward v 0) (get_or x.into u 0)) h
        where
          s : Sits n A W p
          s = sit p (at_member a)

          go : {c : Bool} → Joining (get_or x.onward v 0) (get_or x.into u 0) c → c ≡ true → Joined (rows_day rs) A W pivots u v
          go (no_target e) k = not_both k refl
          go (no_source e) k = not_both k refl
          go (it_joins e f) k =
              record {
                pivot = p;
                listed = at_member a;
                joins =
                    record {
                      differ = ne;
                      into = (reach_back_right rs A W n p u g s).0 (λ z. f ((laid.each i p x a b).into u un ∙ z));
                      onward = onward_reaches p s (λ z. e ((laid.each i p x a b).onward v vn ∙ z));
                    };
              }

      joins_in : Joined (rows_day rs) A W pivots u v → joinedb list v u ≡ true
      unfolding joinedb
      joins_in j =
          let t = at_of j.listed in
          let x = pivot_at_lem list t.0 (omega (arith, laid.count, at_below t.1)) in
          some_yes (λ x. joinsb (get_or x.onward v 0) (get_or x.into u 0)) list t.0 x.0 x.1 (go t.0 x.0 t.1 x.1 (joining (get_or (x.0).onward v 0) (get_or (x.0).into u 0)))
        where
          p : Pivot
          p = j.pivot

          s : Sits n A W p
          s = sit p j.listed

          go : (i : ℕ) (x : PivotNumbers) → At pivots i p → At list i x → {c : Bool} → Joining (get_or x.onward v 0) (get_or x.into u 0) c → c ≡ true
          go i x a b (it_joins e f) = refl
          go i x a b (no_target e) = absurd (reaches_onward p s j.joins.onward (sym ((laid.each i p x a b).onward v vn) ∙ e))
          go i x a b (no_source e) = absurd ((reach_back_right rs A W n p u g s).1 j.joins.into (sym ((laid.each i p x a b).into u un) ∙ e))

      joined_out : joinedb list v u ≡ true → Joined (rows_day rs) A W pivots u v
      unfolding joinedb
      joined_out h =
          let t = of_some (λ x. joinsb (get_or x.onward v 0) (get_or x.into u 0)) list h in
          let q = pivot_at_lem pivots t.0 (omega (arith, laid.count, at_below t.2)) in
          joins_out t.0 q.0 t.1 q.1 t.2 t.3

      -- what is kept for u: its distance where some pivot joins it to v, else nowhere
      pub kept_told : (ds t : List ℕ) → Stands (rows_day rs) A W u v (get_or ds u 0)
          → (Joined (rows_day rs) A W pivots u v × Stands (rows_day rs) A W u v (get_or (kept_joined list n v ds ++ t) u 0))
          ⊎ ((Joined (rows_day rs) A W pivots u v → ⊥) × (get_or (kept_joined list n v ds ++ t) u 0 ≡ nowhere))
      kept_told ds t stands = rw (things_before (kept_at list v ds) n t u un) (go (joinedb list v u) refl)
        where
          go : (b : Bool) → joinedb list v u ≡ b
              → (Joined (rows_day rs) A W pivots u v × Stands (rows_day rs) A W u v (cond b (get_or ds u 0) nowhere))
              ⊎ ((Joined (rows_day rs) A W pivots u v → ⊥) × (cond b (get_or ds u 0) nowhere ≡ nowhere))
          go true e = inl (joined_out e, stands)
          go false e = inr (λ j. not_both (joins_in j) e, refl)

    -- so the farthest of what is kept is the farthest of the sources that pivots join to v
    pub farthest_kept : (v : ℕ) → v < n → (ds t : List ℕ) → ((u : ℕ) → u < n → Stands (rows_day rs) A W u v (get_or ds u 0))
        → IsFar (ReachedJoined rs A W n pivots) v (farthest_in (kept_joined list n v ds ++ t) v n)
    farthest_kept v vn ds t stand =
        farthest_is_far n v (kept_joined list n v ds ++ t)
        (joined_told (rows_day rs) A W n v wh vn (kept_joined list n v ds ++ t) pivots (λ u l ne. kept_told u v l vn ne ds t (stand u l)))
        (λ u d p. pair_positive rs A W n g aw wh u v d p.0)
