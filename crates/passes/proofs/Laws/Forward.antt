-- The forward pass knows every route that can be taken, and nothing else.
use Rattle.std.specs.Prelude.{ℕ, ◌≤◌, ◌<◌, ◌≡◌, refl, Bool, true, false, cond, ◌&&◌, List, [], ◌∷◌, leb, ltb, length, get_or, set}
use Rattle.std.proofs.Common.{ap, sym, ◌∙◌, arith, le_refl, le_trans, length-set, get_or-set_same, get_or-set_other, leb-true, leb-false, ltb-true, ltb-false}
use mathlib.Core.List.Memᴰ
use Rattle.std.proofs.Math.Decide.{ℕ_discrete}
use Rattle.rules.specs.Day.{Row, arrival, Sound}
use Rattle.rules.specs.Routes.{Route, ride, onto}
use Rattle.rules.proofs.Laws.Good.{moves}
use Rattle.rules.specs.Faultless.{Good, good_more}
use Rattle.passes.specs.Forward.{nowhere, usable, step, pass}
use Rattle.passes.proofs.Laws.Chains.{Uncons, in_tail, alone, leads, uncons, widen, spans, empty_route}
use Rattle.passes.specs.Days.{rows_day}

-- what a step does, by cases
data Stepped (W : ℕ) (r : Row) (st : List ℕ) : List ℕ → Type 0 where
  took : get_or st r.from nowhere ≤ r.start → arrival r ≤ W → arrival r < get_or st r.to nowhere → Stepped W r st (set st r.to (arrival r))
  left : (get_or st r.from nowhere ≤ r.start → arrival r ≤ W → get_or st r.to nowhere ≤ arrival r) → Stepped W r st st

stepped : (W : ℕ) (r : Row) (st : List ℕ) → Stepped W r st (step W r st)
unfolding step usable
stepped W r st = go (leb (get_or st r.from nowhere) r.start) (leb (arrival r) W) (ltb (arrival r) (get_or st r.to nowhere)) refl refl refl
  where
    go : (a b c : Bool) → leb (get_or st r.from nowhere) r.start ≡ a → leb (arrival r) W ≡ b → ltb (arrival r) (get_or st r.to nowhere) ≡ c
        → Stepped W r st (cond (a && (b && c)) (set st r.to (arrival r)) st)
    go true true true p q s = took (omega (arith, leb-true)) (omega (arith, leb-true)) (omega (arith, ltb-true))
    go true true false p q s = left (λ x y. omega (arith, ltb-false))
    go true false c p q s = left (λ x y. absurd (omega (arith, leb-false)))
    go false b c p q s = left (λ x y. absurd (omega (arith, leb-false)))

-- what place v holds after a step
data Was (W : ℕ) (r : Row) (st : List ℕ) (v : ℕ) (st' : List ℕ) : Type 0 where
  kept : get_or st' v nowhere ≡ get_or st v nowhere → Was W r st v st'
  new : v ≡ r.to → get_or st r.from nowhere ≤ r.start → arrival r ≤ W → arrival r < get_or st v nowhere → get_or st' v nowhere ≡ arrival r → Was W r st v st'

module _ (W : ℕ) (r : Row) (st : List ℕ) (inside : r.to < length st) where
  after_length : {st' : List ℕ} → Stepped W r st st' → length st' ≡ length st
  after_length (took a b c) = simp length-set
  after_length (left k) = refl

  after_to : {st' : List ℕ} → Stepped W r st st' → get_or st r.from nowhere ≤ r.start → arrival r ≤ W → get_or st' r.to nowhere ≤ arrival r
  after_to (took a b c) x y = omega (arith, get_or-set_same st r.to (arrival r) nowhere inside)
  after_to (left k) x y = k x y

  after_was : {st' : List ℕ} → Stepped W r st st' → (v : ℕ) → Was W r st v st'
  after_was (took a b c) v = go (ℕ_discrete v r.to)
    where
      go : Dec (v ≡ r.to) → Was W r st v (set st r.to (arrival r))
      go (yes e) = new e a b (rw e c) (rw e (get_or-set_same st r.to (arrival r) nowhere inside))
      go (no e) = kept (get_or-set_other st r.to v (arrival r) nowhere e)
  after_was (left k) v = kept refl

  after_le : {st' : List ℕ} → Stepped W r st st' → (v : ℕ) → get_or st' v nowhere ≤ get_or st v nowhere
  after_le s v = go (after_was s v)
    where
      go : {st' : List ℕ} → Was W r st v st' → get_or st' v nowhere ≤ get_or st v nowhere
      go (kept e) = omega arith
      go (new e a b c d) = omega arith

pub step_length : (W n : ℕ) (r : Row) (st : List ℕ) → Sound n r → length st ≡ n → length (step W r st) ≡ n
step_length W n r st s e = after_length W r st (omega arith) (stepped W r st) ∙ e

pub pass_le : (W n : ℕ) (rs : List Row) (st : List ℕ) → Good n rs → length st ≡ n → (v : ℕ) → get_or (pass W rs st) v nowhere ≤ get_or st v nowhere
unfolding pass
pass_le W n [] st g e v = le_refl _
pass_le W n (r ∷ rs) st (good_more s up g) e v =
    le_trans (pass_le W n rs (step W r st) g (step_length W n r st s e) v) (after_le W r st (omega arith) (stepped W r st) v)

-- every route that can be taken from the state is known to the pass
pub complete : (W n : ℕ) (rs : List Row) (st : List ℕ) (f l : Row) → Good n rs → length st ≡ n → Route (rows_day rs) f l
    → get_or st f.from nowhere ≤ f.start → arrival l ≤ W → get_or (pass W rs st) l.to nowhere ≤ arrival l
unfolding pass
complete W n [] st f l g e p h k = absurd (empty_route p)
complete W n (r ∷ rs) st f l (good_more s up g) e p h k =
    go (uncons (moves (good_more s up g)) up p) (λ f' l'. complete W n rs (step W r st) f' l' g (step_length W n r st s e))
  where
    st' : List ℕ
    st' = step W r st

    go : Uncons r rs f l
        → ((f' l' : Row) → Route (rows_day rs) f' l' → get_or st' f'.from nowhere ≤ f'.start → arrival l' ≤ W → get_or (pass W rs st') l'.to nowhere ≤ arrival l')
        → get_or (pass W rs st') l.to nowhere ≤ arrival l
    go (in_tail t) rec = rec _ _ t (le_trans (after_le W r st (omega arith) (stepped W r st) f.from) h) k
    go (alone ef el) rec =
        rw el (le_trans (pass_le W n rs st' g (step_length W n r st s e) r.to) (after_to W r st (omega arith) (stepped W r st) (rw ef at h) (rw el at k)))
    go (leads {q = q} ef w t) rec =
        let same : arrival f ≡ arrival r = ap arrival ef in
        let there : get_or st' r.to nowhere ≤ arrival r = after_to W r st (omega arith) (stepped W r st) (rw ef at h) (omega (arith, spans t)) in
        rec q l t (rw (w.meets, ef) (omega (arith, w.waits))) k

-- what the pass finds is the arrival of a route that can be taken from the state
pub data Found (W : ℕ) (rs : List Row) (st : List ℕ) (v a : ℕ) : Type 0 where
  at_once : get_or st v nowhere ≡ a → Found W rs st v a
  by_route : (f l : Row) → Route (rows_day rs) f l → get_or st f.from nowhere ≤ f.start → l.to ≡ v → arrival l ≡ a → a ≤ W → Found W rs st v a

pub found : (W n : ℕ) (rs : List Row) (st : List ℕ) (v : ℕ) → Good n rs → length st ≡ n → Found W rs st v (get_or (pass W rs st) v nowhere)
unfolding pass
found W n [] st v g e = at_once refl
found W n (r ∷ rs) st v (good_more s up g) e = go (found W n rs (step W r st) v g (step_length W n r st s e))
  where
    inside : r.to < length st
    inside = omega arith

    was : (w : ℕ) → Was W r st w (step W r st)
    was = after_was W r st inside (stepped W r st)

    go : {a : ℕ} → Found W rs (step W r st) v a → Found W (r ∷ rs) st v a
    go {a} (at_once x) = go1 (was v)
      where
        go1 : Was W r st v (step W r st) → Found W (r ∷ rs) st v a
        go1 (kept k) = at_once (cc)
        go1 (new k b c d f) = by_route r r (ride (Memᴰ.head refl)) b (sym k) (cc) (omega arith)
    go {a} (by_route f l t h x y z) = go2 (was f.from)
      where
        go2 : Was W r st f.from (step W r st) → Found W (r ∷ rs) st v a
        go2 (kept k) = by_route f l (widen t) (rw k at h) x y z
        go2 (new k b c d i) = by_route r l (onto (Memᴰ.head refl) (record { meets = k; waits = rw i at h }) (widen t)) b x y z
