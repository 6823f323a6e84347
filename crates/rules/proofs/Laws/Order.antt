-- Targets chosen one at a time: the next one is the head of those that are left.
use Rattle.std.specs.Prelude.{ℕ, ◌≡◌, refl, ◌⊎◌, ◌↔◌}
use Rattle.std.proofs.Common.{sym, subst, ap, inl, inr}
use mathlib.Core.List.Memᴰ
use mathlib.Core.List.{List, [], ◌∷◌, Memᴰ}
use Rattle.rules.specs.Diameter.{Before, Sorted, sorted_more, Targets}
use Rattle.rules.proofs.Laws.Single.{before_once}

-- the targets that are left, in order
pub record Rest (Bound : ℕ → ℕ → Type 0) (Left : ℕ → Type 0) (vs : List ℕ) : Type 0 where
  pub sorted : Sorted Bound vs
  pub members : (v : ℕ) → Memᴰ v vs ↔ (Left v × ((b : ℕ) × Bound v b))

-- the next of them: no other that is left goes before it
pub record Next (Bound : ℕ → ℕ → Type 0) (Left : ℕ → Type 0) (v : ℕ) : Type 0 where
  pub left : Left v
  pub bound : (b : ℕ) × Bound v b
  pub others : (w : ℕ) → Left w → (b : ℕ) × Bound w b → (w ≡ v) ⊎ Before Bound v w

pub all_left : {Bound : ℕ → ℕ → Type 0} {vs : List ℕ} → Targets Bound vs → Rest Bound (λ v. Unit {0}) vs
all_left t = record { sorted = t.sorted; members = λ v. (λ m. (tt, (t.bounded v).0 m), λ h. (t.bounded v).1 h.1) }

pub none_left : {Bound : ℕ → ℕ → Type 0} {Left : ℕ → Type 0} (vs : List ℕ) → Rest Bound Left vs → ((v : ℕ) → Left v → (b : ℕ) × Bound v b → ⊥) → vs ≡ []
none_left [] r none = refl
none_left (v ∷ vs) r none = let m = (r.members v).0 (Memᴰ.head refl) in absurd (none v m.0 m.1)

module _ {Bound : ℕ → ℕ → Type 0} (one : (v b c : ℕ) → Bound v b → Bound v c → b ≡ c) {Left : ℕ → Type 0} where
  pub next_left : (v : ℕ) (vs : List ℕ) → Next Bound Left v → Rest Bound Left vs → (ws : List ℕ) × (vs ≡ v ∷ ws) × Rest Bound (λ w. Left w × Before Bound v w) ws
  next_left v [] n r = absurd (Memᴰ.not-nil ((r.members v).1 (n.left, n.bound)))
  next_left v (x ∷ xs) n r = go r.sorted
    where
      here : Left x × ((b : ℕ) × Bound x b)
      here = (r.members x).0 (Memᴰ.head refl)

      same : ((w : ℕ) → Memᴰ w xs → Before Bound x w) → (x ≡ v) ⊎ Before Bound v x → Memᴰ v (x ∷ xs) → x ≡ v
      same up (inl e) m = e
      same up (inr b) (Memᴰ.head e) = sym e
      same up (inr b) (Memᴰ.tail m) = absurd (before_once one b (up v m))

      inner : {w : ℕ} → Before Bound x w → Memᴰ w (x ∷ xs) → Memᴰ w xs
      inner {w} b (Memᴰ.head e) = let c : Before Bound x x = subst (Before Bound x) e b in absurd (before_once one c c)
      inner b (Memᴰ.tail m) = m

      go : Sorted Bound (x ∷ xs) → (ws : List ℕ) × (x ∷ xs ≡ v ∷ ws) × Rest Bound (λ w. Left w × Before Bound v w) ws
      go (sorted_more up s) =
          let e : x ≡ v = same up (n.others x here.0 here.1) ((r.members v).1 (n.left, n.bound)) in (
            xs,
            ap (λ (y : ℕ). y ∷ xs) e,
            record {
              sorted = s;
              members = λ w. (
                λ m. let h = (r.members w).0 (Memᴰ.tail m) in ((h.0, subst (λ (y : ℕ). Before Bound y w) e (up w m)), h.1),
                λ h. inner (subst (λ (y : ℕ). Before Bound y w) (sym e) h.0.1) ((r.members w).1 (h.0.0, h.1)),
              );
            },
          )
