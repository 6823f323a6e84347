-- The backward recurrence gives the distances to a target.
use Rattle.std.specs.Prelude.{ℕ, zero, suc, ◌+◌, ◌-◌, ◌≤◌, ◌<◌, min, ◌≡◌, refl, ◌≢◌, Bool, true, false, cond, ◌&&◌, eqb, leb, length, get_or}
use Rattle.std.proofs.Common.{ap, ◌∙◌, arith, eqb-true, eq-eqb, ne_eqb, leb-true, leb-false}
use mathlib.Core.List.{List, [], ◌∷◌, Memᴰ}
use Rattle.std.proofs.Math.Decide.{dec_le, ℕ_discrete}
use Rattle.std.proofs.lemmas.Bool.{eqb-false}
use Rattle.rules.specs.Clock.{horizon}
use Rattle.rules.specs.Day.{Row, arrival}
use Rattle.rules.specs.Routes.{Route, ride, onto, Compatible, unreached, after, itself, reached, no_route}
use Rattle.rules.specs.Lent.{Stands}
use Rattle.rules.proofs.Laws.Good.{moves}
use Rattle.rules.specs.Faultless.{Good, good_more}
use Rattle.passes.specs.Forward.{nowhere}
use Rattle.passes.specs.Backward.{by, earliest, distance_to, distances_to}
use Rattle.passes.specs.Legs.{legs_of}
use Rattle.passes.proofs.Laws.Legs.{legs_good, legs_end, legs_distance}
use Rattle.passes.proofs.Laws.Passed.{EndBy}
use Rattle.passes.proofs.Laws.Chains.{Uncons, in_tail, alone, leads, uncons, widen, spans, empty_route}
use Rattle.passes.specs.Days.{rows_day}

-- what one more leg does to the earliest arrival
pub data More (s t : ℕ) (r : Row) (x rest : ℕ) : ℕ → Type 0 where
  uses : r.from ≡ s → t ≤ r.start → More s t r x rest (min x rest)
  skips : (r.from ≡ s → t ≤ r.start → ⊥) → More s t r x rest rest

pub one_more : (v s t : ℕ) (r : Row) (rs : List Row) → More s t r (by v r (earliest v r.to (arrival r) rs)) (earliest v s t rs) (earliest v s t (r ∷ rs))
unfolding earliest
one_more v s t r rs = go (eqb r.from s) (leb t r.start) refl refl
  where
    x : ℕ
    x = by v r (earliest v r.to (arrival r) rs)

    go : (p q : Bool) → eqb r.from s ≡ p → leb t r.start ≡ q → More s t r x (earliest v s t rs) (cond (p && q) (min x (earliest v s t rs)) (earliest v s t rs))
    go true true p q = uses (eqb-true _ _ p) (leb-true _ _ q)
    go true false p q = skips (λ e k. omega (arith, leb-false))
    go false d p q = skips (λ e k. eqb-false _ _ p e)

data By (v : ℕ) (r : Row) (x : ℕ) : ℕ → Type 0 where
  here : r.to ≡ v → By v r x (arrival r)
  on : r.to ≢ v → By v r x x

by_case : (v : ℕ) (r : Row) (x : ℕ) → By v r x (by v r x)
by_case v r x = go (eqb r.to v) refl
  where
    go : (p : Bool) → eqb r.to v ≡ p → By v r x (cond p (arrival r) x)
    go true p = here (eqb-true _ _ p)
    go false p = on (eqb-false _ _ p)

-- no route that leaves stop s at t or later is at the target sooner
pub earliest_le : (v n : ℕ) (rs : List Row) (s t : ℕ) (f l : Row) → Good n rs → Route (rows_day rs) f l → f.from ≡ s → t ≤ f.start → l.to ≡ v → earliest v s t rs ≤ arrival l
earliest_le v n [] s t f l g p es k ev = absurd (empty_route p)
earliest_le v n (r ∷ rs) s t f l (good_more sound up g) p es k ev =
    go (uncons (moves (good_more sound up g)) up p) (λ s' t' f' p' es' k'. earliest_le v n rs s' t' f' l g p' es' k' ev) (one_more v s t r rs) (by_case v r _)
  where
    go : {x y : ℕ} → Uncons r rs f l
        → ((s' t' : ℕ) (f' : Row) → Route (rows_day rs) f' l → f'.from ≡ s' → t' ≤ f'.start → earliest v s' t' rs ≤ arrival l)
        → More s t r x (earliest v s t rs) y → By v r (earliest v r.to (arrival r) rs) x → y ≤ arrival l
    go (in_tail q) rec (uses a b) c = omega (arith, rec s t f q es k)
    go (in_tail q) rec (skips a) c = rec s t f q es k
    go (alone ef el) rec (skips a) c = absurd (a (rw ef at es) (rw ef at k))
    go (alone ef el) rec (uses a b) (here c) = omega (arith, ap arrival el)
    go (alone ef el) rec (uses a b) (on c) = absurd (c (rw el at ev))
    go (leads {q = q} ef m z) rec (skips a) c = absurd (a (rw ef at es) (rw ef at k))
    go (leads {q = q} ef m z) rec (uses a b) (here c) = omega (arith, spans z, ap arrival ef, m.waits)
    go (leads {q = q} ef m z) rec (uses a b) (on c) = omega (arith, rec r.to (arrival r) q z (rw ef at m.meets) (rw ef at m.waits))

-- a route over rs from stop s at t or later, into v at a
pub record Journey (rs : List Row) (s t v a : ℕ) : Type 0 where
  pub first : Row
  pub last : Row
  pub route : Route (rows_day rs) first last
  pub leaves : first.from ≡ s
  pub begins : t ≤ first.start
  pub enters : last.to ≡ v
  pub arrives : arrival last ≡ a

-- the earliest arrival is that of a route, or nowhere
pub data Known (rs : List Row) (s t v a : ℕ) : Type 0 where
  nothing : a ≡ nowhere → Known rs s t v a
  known : Journey rs s t v a → Known rs s t v a

later : {r : Row} {rs : List Row} {s t v a : ℕ} → Known rs s t v a → Known (r ∷ rs) s t v a
later (nothing e) = nothing e
later (known j) = known (record { first = j.first; last = j.last; route = widen j.route; leaves = j.leaves; begins = j.begins; enters = j.enters; arrives = j.arrives })

pub earliest_known : (v : ℕ) (rs : List Row) (s t : ℕ) → Known rs s t v (earliest v s t rs)
unfolding earliest
earliest_known v [] s t = nothing refl
earliest_known v (r ∷ rs) s t = go (earliest_known v rs s t) (earliest_known v rs r.to (arrival r)) (one_more v s t r rs) (by_case v r _)
  where
    lead : {b x : ℕ} → Known rs r.to (arrival r) v b → By v r b x → r.from ≡ s → t ≤ r.start → Known (r ∷ rs) s t v x
    lead h (here c) es k = known (record { first = r; last = r; route = ride (Memᴰ.head refl); leaves = es; begins = k; enters = c; arrives = refl })
    lead (nothing e) (on c) es k = nothing e
    lead (known j) (on c) es k =
        known (record {
          first = r;
          last = j.last;
          route = onto (Memᴰ.head refl) (record { meets = j.leaves; waits = j.begins }) (widen j.route);
          leaves = es;
          begins = k;
          enters = j.enters;
          arrives = j.arrives;
        })

    least : {x b : ℕ} → Known (r ∷ rs) s t v x → Known (r ∷ rs) s t v b → Dec (x ≤ b) → Known (r ∷ rs) s t v (min x b)
    least {x} {b} h k (yes d) = let e : min x b ≡ x = omega arith in rw e h
    least {x} {b} h k (no d) = let e : min x b ≡ b = omega arith in rw e k

    go : {b c x y : ℕ} → Known rs s t v b → Known rs r.to (arrival r) v c → More s t r x b y → By v r c x → Known (r ∷ rs) s t v y
    go h k (skips a) z = later h
    go {b = b} {x = x} h k (uses a d) z = least (lead k z a d) (later h) (dec_le x b)

last_in : {ls : List Row} {f l : Row} → Route (rows_day ls) f l → Memᴰ l ls
last_in (ride m) = m
last_in (onto m w p) = last_in p

module _ (ls : List Row) (W n : ℕ) (g : Good n ls) (ends : EndBy W ls) (wh : W ≤ horizon) where
  pub earliest_stands : (u v : ℕ) → u ≢ v → Stands (rows_day ls) 0 W u v (earliest v u 0 ls)
  earliest_stands u v ne = go (earliest v u 0 ls) (earliest_known v ls u 0) at_most
    where
      at_most : (t : Compatible (rows_day ls) 0 W u v) → earliest v u 0 ls ≤ arrival t.last
      at_most t = earliest_le v n ls u 0 t.first t.last g t.route t.leaves t.begins t.enters

      go : (x : ℕ) → Known ls u 0 v x → ((t : Compatible (rows_day ls) 0 W u v) → x ≤ arrival t.last) → Stands (rows_day ls) 0 W u v x
      go x (nothing e) l = record { distance = unreached; is = no_route ne (λ t. omega (arith, l t, t.ends)); as_number = e }
      go x (known j) l =
          record {
            distance = after x;
            is =
                reached {d = x} ne
                (record {
                  holds = (
                    record {
                      first = j.first;
                      last = j.last;
                      route = j.route;
                      leaves = j.leaves;
                      enters = j.enters;
                      begins = j.begins;
                      ends = ends j.last (last_in j.route);
                    },
                    omega (arith, j.arrives),
                  );
                  least = λ c h. omega (arith, l h.0, h.1);
                });
            as_number = refl;
          }

  -- the number for each stop stands for its distance to the target
  pub distance_to_stands : (u v : ℕ) → Stands (rows_day ls) 0 W u v (distance_to v ls u)
  distance_to_stands u v = go (ℕ_discrete u v)
    where
      go : Dec (u ≡ v) → Stands (rows_day ls) 0 W u v (distance_to v ls u)
      go (yes e) = rw (eq-eqb u v e) (record { distance = after 0; is = itself e; as_number = refl })
      go (no e) = rw (ne_eqb u v e) (earliest_stands u v e)

-- the numbers for n stops
distances_from_lem : (v : ℕ) (ls : List Row) (k j i : ℕ) → i < k → get_or (distances_to v ls k j) i 0 ≡ distance_to v ls (i + j)
unfolding distances_to
distances_from_lem v ls zero j i h = absurd (omega arith)
distances_from_lem v ls (suc k) j zero h = let e : 0 + j ≡ j = omega arith in rw e
distances_from_lem v ls (suc k) j (suc i) h = let e : suc i + j ≡ i + suc j = omega arith in rw e (distances_from_lem v ls k (suc j) i (omega arith))

pub distances_at : (v : ℕ) (ls : List Row) (n u : ℕ) → u < n → get_or (distances_to v ls n 0) u 0 ≡ distance_to v ls u
distances_at v ls n u h = distances_from_lem v ls n 0 u h ∙ let e : u + 0 ≡ u = omega arith in rw e

pub length_distances : (v : ℕ) (ls : List Row) (k j : ℕ) → length (distances_to v ls k j) ≡ k
unfolding distances_to
length_distances v ls zero j = refl
length_distances v ls (suc k) j = ap suc (length_distances v ls k (suc j))

-- each place stands for the distance from its stop to the target
pub distances_stand : (ls : List Row) (W n v u : ℕ) → Good n ls → EndBy W ls → W ≤ horizon → u < n → Stands (rows_day ls) 0 W u v (get_or (distances_to v ls n 0) u 0)
distances_stand ls W n v u g ends wh h = rw (distances_at v ls n u h) (distance_to_stands ls W n g ends wh u v)

-- over legs made of rows, it stands for the distance over the rows
pub distances_right : (rs : List Row) (A W n v u : ℕ) → Good n rs → A ≤ W → W ≤ horizon → u < n → Stands (rows_day rs) A W u v (get_or (distances_to v (legs_of A W rs) n 0) u 0)
distances_right rs A W n v u g aw wh h =
    let s = distances_stand (legs_of A W rs) (W - A) n v u (legs_good n A W rs g) (legs_end A W rs) (omega arith) h in
    record { distance = s.distance; is = legs_distance A W rs u v aw s.is; as_number = s.as_number }
