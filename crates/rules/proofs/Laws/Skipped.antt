-- Skipping targets never changes the value: a search that skips none ends with the same.
use Rattle.std.specs.Prelude.{ℕ, ◌≤◌, max, ◌≡◌, refl}
use Rattle.std.proofs.Common.{ap, arith}
use mathlib.Core.List.{List, [], ◌∷◌, Memᴰ}
use Rattle.std.proofs.Math.Option.{Option, none, some}
use Rattle.rules.specs.Eccentricity.{Backward}
use Rattle.rules.specs.Diameter.{Targets, counted, First, here, further, Shown, NoneShown}
use Rattle.rules.proofs.Laws.Single.{if_any_single}

-- from a best value on every target of the list is visited, and the best value is `last` in the end
pub data AllVisited (Pair : ℕ → ℕ → ℕ → Type 0) : List ℕ → (best last : ℕ) → Type 0 where
  all_done : {best : ℕ} → AllVisited Pair [] best best
  all_more : {v best last : ℕ} {vs : List ℕ} (e : Option ℕ) → Backward Pair v e → AllVisited Pair vs (max best (counted e)) last → AllVisited Pair (v ∷ vs) best last

pub first_member : {P : ℕ → Type 0} {vs : List ℕ} {v : ℕ} → First P vs v → Memᴰ v vs
first_member (here p) = mathlib.Core.List.Memᴰ.head refl
first_member (further p x) = mathlib.Core.List.Memᴰ.tail (first_member x)

first_holds : {P : ℕ → Type 0} {vs : List ℕ} {v : ℕ} → First P vs v → P v
first_holds (here p) = p
first_holds (further p x) = first_holds x

module _ {Pair : ℕ → ℕ → ℕ → Type 0} where
  -- where each target has an eccentricity, all can be visited
  pub all_visited : (vs : List ℕ) → ((v : ℕ) → Memᴰ v vs → (e : Option ℕ) × Backward Pair v e) → (best : ℕ) → (last : ℕ) × AllVisited Pair vs best last
  all_visited [] ecc best = (best, all_done)
  all_visited (v ∷ vs) ecc best =
      let e = ecc v (mathlib.Core.List.Memᴰ.head refl) in
      let more = all_visited vs (λ w m. ecc w (mathlib.Core.List.Memᴰ.tail m)) (max best (counted e.0)) in
      (more.0, all_more e.0 e.1 more.1)

  no_less : {vs : List ℕ} {best last : ℕ} → AllVisited Pair vs best last → best ≤ last
  no_less all_done = omega arith
  no_less (all_more e b x) = omega (arith, no_less x)

  at_least_each : {vs : List ℕ} {best last v d : ℕ} → AllVisited Pair vs best last → Memᴰ v vs → Backward Pair v (some d) → d ≤ last
  at_least_each {d = d} (all_more {v = w} e b x) (mathlib.Core.List.Memᴰ.head same) h =
      let f : e ≡ some d = if_any_single (λ c. (u : ℕ) × Pair u w c) e (some d) b (rw (← same) h) in omega (arith, no_less x, ap counted f)
  at_least_each (all_more e b x) (mathlib.Core.List.Memᴰ.tail m) h = at_least_each x m h
  at_least_each {v = v} {d = d} (all_done {best = best}) x9 h = elim x9 [ ]

  at_most : {vs : List ℕ} {best last : ℕ} → AllVisited Pair vs best last → (m : ℕ) → best ≤ m → ((u v d : ℕ) → Pair u v d → d ≤ m) → last ≤ m
  at_most all_done m l h = l
  at_most (all_more {v = v} {best = best} e b x) m l h = at_most x m (larger e b) h
    where
      larger : (o : Option ℕ) → Backward Pair v o → max best (counted o) ≤ m
      larger none c = omega arith
      larger (some d) c = omega (arith, h c.holds.0 v d c.holds.1)

  module _ {Bound : ℕ → ℕ → Type 0} {vs : List ℕ} {last : ℕ} (targets : Targets Bound vs) (all : AllVisited Pair vs 0 last) where
    pub shown_unskipped : {d u v k : ℕ} → Shown Pair Bound d u v k → last ≡ d
    shown_unskipped {d} {u} {v} h =
        let m : Memᴰ v vs = (targets.bounded v).1 ((h.targets.bounded v).0 (first_member h.target)) in
        omega (arith, at_least_each all m (first_holds h.target), at_most all d (omega arith) (λ u v c p. h.greatest.greatest c (u, v, p)))

    pub none_unskipped : {k : ℕ} → NoneShown Pair Bound k → last ≡ 0
    none_unskipped h = omega (arith, at_most all 0 (omega arith) (λ u v c p. absurd (h.nobody u v c p)))
