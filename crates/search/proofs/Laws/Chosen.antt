-- The next target is the head of the targets that are left.
use Rattle.std.specs.Prelude.{ℕ, suc, ◌≤◌, ◌<◌, ◌≡◌, ◌≢◌, ◌⊎◌, Bool, not, ◌&&◌, cond, List, [], ◌∷◌, eqb, get_or, map, filter, fold, Option, Some, None}
use Rattle.std.specs.List.{range_with_len, reduce}
use Rattle.std.specs.declared.cmp.Ordering.{Ordering}
use Rattle.std.specs.declared.cmp.Ordering.TheVariants.{Less, Equal, Greater}
use Rattle.std.specs.Ordering.{MatchOrdering, nat_cmp, ordering_then, is_lt, min_by_ordering}
use Rattle.std.specs.Cmp.{ranks}
use Rattle.std.proofs.Math.Path.{refl}
use Rattle.std.proofs.Common.{sym, ap, ◌∙◌, subst, inl, inr, arith, ne_eqb, ltb, MatchOption, ◌+◌}
use Rattle.std.proofs.Math.Bool.{true, false}
use Rattle.std.proofs.Math.Option.{some}
use Rattle.std.proofs.Math.Decide.{ℕ_discrete}
use Rattle.std.proofs.lemmas.Bool.{eqb-false, ltb-true, ltb-false}
use Rattle.std.proofs.lemmas.List.Folds.{fold-map}
use Rattle.std.proofs.lemmas.List.Sums.{fold_push}
use Rattle.std.proofs.lemmas.List.FromFn.{map-range_with_len_more}
use Rattle.rules.specs.Diameter.{Before, bound_falls, number_rises}
use Rattle.rules.proofs.Laws.Order as order
use Rattle.passes.specs.Forward.{nowhere}
use Rattle.search.specs.declared.targets.Place.{Place}
use Rattle.search.specs.Targets.{in_order, afterb, first_of, place_in, next_in}
use Rattle.search.proofs.Laws.Scan.{scan_keeps}
use Rattle.search.proofs.Laws.Greatest.{some_same, not_both, each_suc}
use Rattle.search.proofs.Laws.Entered.{bound_at, bound_at_lem}

-- one of n stops, and the bound that stands at its place
abbrev pub BoundIn : (n : ℕ) (bs : List ℕ) (v b : ℕ) → Type 0
BoundIn n bs v b = (v < n) × (bound_at bs v ≡ some b)

-- in the order, stop v with the bound b comes after `last`
abbrev pub After : (last : Place) (v b : ℕ) → Type 0
After last v b = (b < last.bound.0) ⊎ ((b ≡ last.bound.0) × (last.stop < v))

-- the targets that are left after `last`
abbrev pub Left : (n : ℕ) (bs : List ℕ) (last : Place) (v : ℕ) → Type 0
Left n bs last v = (b : ℕ) → BoundIn n bs v b → After last v b

-- what the order of two places says of their numbers
abbrev Ordered : (p q : Place) → Ordering → Type 0
Ordered p q o = MatchOrdering o (After p q.stop q.bound.0) ((p.bound.0 ≡ q.bound.0) × (p.stop ≡ q.stop)) (After q p.stop p.bound.0)

ordered : (p q : Place) → Ordered p q (in_order p q)
ordered p q = go (nat_cmp q.bound.0 p.bound.0) (nat_cmp p.stop q.stop) (ranks q.bound.0 p.bound.0) (ranks p.stop q.stop)
  where
    go : (o r : Ordering) → MatchOrdering o (q.bound.0 < p.bound.0) (q.bound.0 ≡ p.bound.0) (p.bound.0 < q.bound.0)
        → MatchOrdering r (p.stop < q.stop) (p.stop ≡ q.stop) (q.stop < p.stop) → Ordered p q (ordering_then o r)
    go Less r l m = inl l
    go Greater r l m = inl l
    go Equal Less l m = inr (l, m)
    go Equal Equal l m = (sym l, m)
    go Equal Greater l m = inr (sym l, m)

after_yes : (last p : Place) → afterb last p ≡ true → (p.bound.0 ≢ nowhere) × After last p.stop p.bound.0
unfolding afterb
after_yes last p h = go (eqb p.bound.0 nowhere) (in_order last p) refl (ordered last p) h
  where
    go : (a : Bool) (o : Ordering) → eqb p.bound.0 nowhere ≡ a → Ordered last p o → not a && is_lt o ≡ true → (p.bound.0 ≢ nowhere) × After last p.stop p.bound.0
    go true o e m k = not_both k refl
    go false Less e m k = (eqb-false _ _ e, m)
    go false Equal e m k = not_both k refl
    go false Greater e m k = not_both k refl

yes_after : (last p : Place) → p.bound.0 ≢ nowhere → After last p.stop p.bound.0 → afterb last p ≡ true
unfolding afterb
yes_after last p ne h = rw (ne_eqb p.bound.0 nowhere ne) (go (in_order last p) (ordered last p) h)
  where
    go : (o : Ordering) → Ordered last p o → After last p.stop p.bound.0 → is_lt o ≡ true
    go Less m k = refl
    go Equal m (inl x) = absurd (omega (arith, m.0))
    go Equal m (inr x) = absurd (omega (arith, m.1))
    go Greater (inl y) (inl x) = absurd (omega arith)
    go Greater (inl y) (inr x) = absurd (omega arith)
    go Greater (inr y) (inl x) = absurd (omega arith)
    go Greater (inr y) (inr x) = absurd (omega arith)

-- one place more
abbrev better : Place → Option Place → Option Place
better p None = Some p
better p (Some q) = Some (first_of q p)

unfoldable chosen : (last : Place) → Option Place → Place → Option Place
chosen last x p = cond (afterb last p) (better p x) x

-- what the scan knows of the stops below k
abbrev Over : (bs : List ℕ) (last : Place) (k : ℕ) → Option Place → Type 0
Over bs last k None = (v : ℕ) → v < k → (b : ℕ) → bound_at bs v ≡ some b → After last v b → ⊥
Over bs last k (Some p) =
    (p.stop < k) × (bound_at bs p.stop ≡ some p.bound.0) × After last p.stop p.bound.0
    × ((v : ℕ) → v < k → (b : ℕ) → bound_at bs v ≡ some b → After last v b → (b < p.bound.0) ⊎ ((b ≡ p.bound.0) × (p.stop ≤ v)))

-- chosen one after another, they come to the first of those that come after `last`
abbrev first_from : Option Place → List Place → Option Place
first_from None ps = reduce first_of ps
first_from (Some p) ps = Some (fold first_of p ps)

chosen_first : (last : Place) (x : Option Place) (ps : List Place) → fold (chosen last) x ps ≡ first_from x (filter (afterb last) ps)
unfolding chosen
chosen_first last None [] = refl
chosen_first last (Some p) [] = refl
chosen_first last x (p ∷ ps) = go (afterb last p) (λ y. chosen_first last y ps)
  where
    more : (y : Option Place) (qs : List Place) → first_from (better p y) qs ≡ first_from y (p ∷ qs)
    more None qs = refl
    more (Some q) qs = refl

    go : (c : Bool) → ((y : Option Place) → fold (chosen last) y ps ≡ first_from y (filter (afterb last) ps))
        → fold (chosen last) (cond c (better p x) x) ps ≡ first_from x (cond c (p ∷ filter (afterb last) ps) (filter (afterb last) ps))
    go true r = r (better p x) ∙ more x (filter (afterb last) ps)
    go false r = r x

module _ (bs : List ℕ) (last : Place) where
  over_skip : (k : ℕ) (x : Option Place) → Over bs last k x → afterb last (place_in bs k) ≡ false → Over bs last (suc k) x
  over_skip k None o skip =
      each_suc (λ v. (b : ℕ) → bound_at bs v ≡ some b → After last v b → ⊥) k
      (λ b e a. let t = (bound_at_lem bs k b).0 e in not_both (yes_after last (place_in bs k) (λ z. t.1 (sym t.0 ∙ z)) (rw t.0 a)) skip) o
  over_skip k (Some p) o skip = (
    omega (arith, o.0),
    o.1,
    o.2,
    each_suc (λ v. (b : ℕ) → bound_at bs v ≡ some b → After last v b → (b < p.bound.0) ⊎ ((b ≡ p.bound.0) × (p.stop ≤ v))) k
        (λ b e a. let t = (bound_at_lem bs k b).0 e in not_both (yes_after last (place_in bs k) (λ z. t.1 (sym t.0 ∙ z)) (rw t.0 a)) skip) o.3,
  )

  over_better : (k : ℕ) (x : Option Place) → Over bs last k x → afterb last (place_in bs k) ≡ true → Over bs last (suc k) (better (place_in bs k) x)
  over_better k x o h = go x o
    where
      d : ℕ
      d = get_or bs k 0

      yes_here : (d ≢ nowhere) × After last k d
      yes_here = after_yes last (place_in bs k) h

      is_here : bound_at bs k ≡ some d
      is_here = (bound_at_lem bs k d).1 (refl, yes_here.0)

      same : (b : ℕ) → bound_at bs k ≡ some b → b ≡ d
      same b e = some_same e is_here

      go : (x : Option Place) → Over bs last k x → Over bs last (suc k) (better (place_in bs k) x)
      go None o = (
        omega arith,
        is_here,
        yes_here.1,
        each_suc (λ v. (b : ℕ) → bound_at bs v ≡ some b → After last v b → (b < d) ⊎ ((b ≡ d) × (k ≤ v))) k (λ b e a. inr (same b e, omega arith)) (λ v l b e a. absurd (o v l b e a)),
      )
      go (Some p) o = pick (in_order p (place_in bs k)) (ordered p (place_in bs k))
        where
          lower : (v b : ℕ) → p.bound.0 < d → (b < p.bound.0) ⊎ ((b ≡ p.bound.0) × (p.stop ≤ v)) → (b < d) ⊎ ((b ≡ d) × (k ≤ v))
          lower v b l (inl m) = inl (omega arith)
          lower v b l (inr m) = inl (omega arith)

          held : (b : ℕ) → b ≡ d → After p k d → (b < p.bound.0) ⊎ ((b ≡ p.bound.0) × (p.stop ≤ k))
          held b e (inl m) = inl (omega arith)
          held b e (inr m) = inr (e ∙ m.0, omega (arith, m.1))

          pick : (c : Ordering) → Ordered p (place_in bs k) c → Over bs last (suc k) (Some (min_by_ordering c p (place_in bs k)))
          pick Less m = (
            omega (arith, o.0),
            o.1,
            o.2,
            each_suc (λ v. (b : ℕ) → bound_at bs v ≡ some b → After last v b → (b < p.bound.0) ⊎ ((b ≡ p.bound.0) × (p.stop ≤ v))) k (λ b i a. held b (same b i) m) o.3,
          )
          pick Equal m = absurd (omega (arith, o.0, m.1))
          pick Greater (inl m) = (
            omega arith,
            is_here,
            yes_here.1,
            each_suc (λ v. (b : ℕ) → bound_at bs v ≡ some b → After last v b → (b < d) ⊎ ((b ≡ d) × (k ≤ v))) k (λ b i a. inr (same b i, omega arith))
                (λ v l b i a. lower v b m (o.3 v l b i a)),
          )
          pick Greater (inr m) = absurd (omega (arith, o.0, m.1))

  over_step : (k : ℕ) (x : Option Place) → Over bs last k x → Over bs last (suc k) (chosen last x (place_in bs k))
  unfolding chosen
  over_step k x o = go (afterb last (place_in bs k)) refl
    where
      go : (c : Bool) → afterb last (place_in bs k) ≡ c → Over bs last (suc k) (cond c (better (place_in bs k) x) x)
      go true e = over_better k x o e
      go false e = over_skip k x o e

  module _ (n : ℕ) where
    scanned : Over bs last n (next_in bs last n)
    unfolding next_in
    scanned =
        subst (Over bs last n) (sym (fold-map (chosen last) (place_in bs) None (range_with_len 0 n)) ∙ chosen_first last None (map (place_in bs) (range_with_len 0 n)))
        (scan_keeps (Over bs last) (λ x j. chosen last x (place_in bs j)) over_step n n 0 None (omega arith) (λ v l b e a. omega arith))

    -- at the end no target is left
    pub none_is_left : next_in bs last n ≡ None → (v : ℕ) → Left n bs last v → (b : ℕ) × BoundIn n bs v b → ⊥
    none_is_left e v l h = let o : Over bs last n None = subst (Over bs last n) e scanned in o v h.1.0 h.0 h.1.1 (l h.0 h.1)

    module _ (p : Place) (found : next_in bs last n ≡ Some p) where
      over : Over bs last n (Some p)
      over = subst (Over bs last n) found scanned

      -- the next target is one of the stops, with its bound, after `last`
      pub next_bound : BoundIn n bs p.stop p.bound.0
      next_bound = (over.0, over.1)

      pub next_after : After last p.stop p.bound.0
      next_after = over.2

      -- and it is the head of those that are left
      pub next_is_head : order.Next (BoundIn n bs) (Left n bs last) p.stop
      next_is_head =
          record {
            left = λ b h. let e : p.bound.0 ≡ b = some_same over.1 h.1 in subst (After last p.stop) e next_after;
            bound = (p.bound.0, next_bound);
            others = λ w l h. go w h.0 h.1 (over.3 w h.1.0 h.0 h.1.1 (l h.0 h.1)) (ℕ_discrete w p.stop);
          }
        where
          go : (w b : ℕ) → BoundIn n bs w b → (b < p.bound.0) ⊎ ((b ≡ p.bound.0) × (p.stop ≤ w)) → Dec (w ≡ p.stop) → (w ≡ p.stop) ⊎ Before (BoundIn n bs) p.stop w
          go w b h x (yes e) = inl e
          go w b h (inl x) (no e) = inr (bound_falls {b = p.bound.0} {c = b} next_bound h x)
          go w b h (inr x) (no e) = inr (number_rises {b = b} (rw x.0 next_bound) h (omega arith))

-- one stop more
one_more : (bs : List ℕ) (last : Place) (k : ℕ) → next_in bs last (k + 1) ≡ chosen last (next_in bs last k) (place_in bs k)
unfolding next_in
one_more bs last k =
    sym (chosen_first last None (map (place_in bs) (range_with_len 0 (k + 1))))
    ∙ ap (fold (chosen last) None) (map-range_with_len_more (place_in bs) 0 k k (omega arith))
    ∙ fold_push (chosen last) None (map (place_in bs) (range_with_len 0 k)) (place_in bs k)
    ∙ ap (λ x. chosen last x (place_in bs k)) (chosen_first last None (map (place_in bs) (range_with_len 0 k)))

-- so stop k is the next target where it comes after `last` and its bound is above that of the one so far, x
module _ (bs : List ℕ) (last : Place) (k : ℕ) (x : Option Place) (h : x ≡ next_in bs last k) where
  pub skipped : afterb last (place_in bs k) ≡ false → x ≡ next_in bs last (k + 1)
  unfolding chosen
  skipped e = h ∙ sym (one_more bs last k ∙ (rw e))

  -- t: whether the bound is above
  module _ (t : Bool) (m : MatchOption x (t ≡ true) (λ q. t ≡ ltb q.bound.0 (get_or bs k 0))) where
    pub taken : t ≡ true → afterb last (place_in bs k) ≡ true → Some (place_in bs k) ≡ next_in bs last (k + 1)
    unfolding chosen
    taken y e = sym (one_more bs last k ∙ rw (e, ← h) (go x m))
      where
        pick : (q : Place) (o : Ordering) → q.bound.0 < get_or bs k 0 → Ordered q (place_in bs k) o → min_by_ordering o q (place_in bs k) ≡ place_in bs k
        pick q Less l m = absurd (omega (arith, m))
        pick q Equal l m = absurd (omega (arith, m))
        pick q Greater l m = refl

        go : (x : Option Place) → MatchOption x (t ≡ true) (λ q. t ≡ ltb q.bound.0 (get_or bs k 0)) → better (place_in bs k) x ≡ Some (place_in bs k)
        go None m = refl
        go (Some q) m = ap Some (pick q (in_order q (place_in bs k)) (ltb-true _ _ (sym m ∙ y)) (ordered q (place_in bs k)))

    pub kept : t ≡ false → x ≡ next_in bs last (k + 1)
    unfolding chosen
    kept y = sym (one_more bs last k ∙ rw (← h) (either (afterb last (place_in bs k)) (go x h m)))
      where
        either : (c : Bool) → better (place_in bs k) x ≡ x → cond c (better (place_in bs k) x) x ≡ x
        either true e = e
        either false e = refl

        pick : (q : Place) (o : Ordering) → q.stop < k → get_or bs k 0 ≤ q.bound.0 → Ordered q (place_in bs k) o → min_by_ordering o q (place_in bs k) ≡ q
        pick q Less b l m = refl
        pick q Equal b l m = refl
        pick q Greater b l (inl m) = absurd (omega arith)
        pick q Greater b l (inr m) = absurd (omega (arith, m.1))

        go : (x : Option Place) → x ≡ next_in bs last k → MatchOption x (t ≡ true) (λ q. t ≡ ltb q.bound.0 (get_or bs k 0)) → better (place_in bs k) x ≡ x
        go None h m = not_both m y
        go (Some q) h m = ap Some (pick q (in_order q (place_in bs k)) ((next_bound bs last k q (sym h)).0) (ltb-false _ _ (sym m ∙ y)) (ordered q (place_in bs k)))
