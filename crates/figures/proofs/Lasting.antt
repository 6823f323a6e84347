-- The last checks of a call: 7, then 8 and 9, then 10. 12 is not given, since a joined pair has a route.
use Prim.Native.Nat.{ℕ, ◌≤◌, ◌<◌}
use native.Mathlib.Omega.{arith}
use native.Mathlib.Decide.{dec_le, dec_lt}
use mathlib.Core.Path.{refl}
use mathlib.Core.Logic.{inl, inr}
use mathlib.Core.List.{List, [], ◌∷◌, ◌++◌}
use Rattle.rules.specs.Words.{Any, any_here, any_later}
use Rattle.rules.specs.Pivots.{pivots_of, Astray, no_stop, too_early, too_late}
use Rattle.rules.specs.Table.{Check, Room, Takes, Unrouted, check_7, check_8, check_9, check_10, check_12, Clear, Refuses}
use Rattle.rules.proofs.Laws.Good.{at_below, none_if_no_least}
use Rattle.rules.proofs.Laws.Joined.{joined_has_route}
use Rattle.rules.proofs.Laws.Checks.{refuses_first, refuses_then, clear_both}
use Rattle.passes.specs.Days.{rows_day}
use Rattle.figures.specs.Own.{Own, own_table}
use Rattle.figures.proofs.Judging.{passes}

pub none_of_none : {A : Type 0} {P : A → Type 0} → Any P [] → ⊥
none_of_none a = elim a [ ]

pub none_of_more : {A : Type 0} {P : A → Type 0} {x : A} {xs : List A} → (P x → ⊥) → (Any P xs → ⊥) → Any P (x ∷ xs) → ⊥
none_of_more h k (any_here p) = h p
none_of_more h k (any_later a) = k a

pub none_of_one : {A : Type 0} {P : A → Type 0} {x : A} → (P x → ⊥) → Any P (x ∷ []) → ⊥
none_of_one h = none_of_more h none_of_none

-- no stop is named; no pivots come
pub none_named : (n : ℕ) → Clear (check_7 n [] ∷ [])
none_named n = (passes none_of_none, tt)

-- no lists are lent
pub no_rooms : Clear (check_10 [] ∷ [])
no_rooms = (passes none_of_none, tt)

pub no_pivots : (n A W : ℕ) → Clear (check_8 [] ∷ check_9 n A W (pivots_of []) ∷ [])
unfolding pivots_of
no_pivots n A W = (passes (λ h. elim h [ inl e ↦ e refl | inr l ↦ omega arith ]), ((λ place l. go place l.holds), tt))
  where
    go : (place : ℕ) → Astray n A W [] place → ⊥
    go place (no_stop a h) = omega (arith, at_below a)
    go place (too_early a h) = omega (arith, at_below a)
    go place (too_late a h) = omega (arith, at_below a)

-- lent lists, one after another
only : {A : Type 0} {P : A → Type 0} {x : A} {xs : List A} → Any P (x ∷ []) → Any P (x ∷ xs)
only (any_here p) = any_here p
only (any_later a) = absurd (none_of_none a)

-- what the checks that are not given tell
pub stop_named : {n stop : ℕ} → Clear (check_7 n (stop ∷ []) ∷ []) → stop < n
stop_named {n} {stop} c = go (dec_lt stop n)
  where
    go : Dec (stop < n) → stop < n
    go (yes l) = l
    go (no l) = absurd (c.0 0 (refl, any_here (omega arith)))

pub room_wide : {has wants : ℕ} → Clear (check_10 (record { has = has; wants = wants } ∷ []) ∷ []) → wants ≤ has
room_wide {has} {wants} c = go (dec_le wants has)
  where
    go : Dec (wants ≤ has) → wants ≤ has
    go (yes l) = l
    go (no l) = absurd (c.0 0 (refl, any_here (omega arith)))

module _ (room : Room) (rooms : List Room) where
  pub room_first : (number place : ℕ) → Refuses (check_10 (room ∷ []) ∷ []) number place → Refuses (check_10 (room ∷ rooms) ∷ []) number place
  room_first number place (inl h) = inl (h.0, (h.1.0, only h.1.1))
  room_first number place (inr h) = absurd h.1

  module _ (wide : Clear (check_10 (room ∷ []) ∷ [])) where
    all_wide : (Any (λ room. room.has < room.wants) rooms → ⊥) → (place : ℕ) → (check_10 (room ∷ rooms)).given place → ⊥
    all_wide h = passes (none_of_more (λ l. wide.0 0 (refl, any_here l)) h)

    pub room_then : (number place : ℕ) → Refuses (check_10 rooms ∷ []) number place → Refuses (check_10 (room ∷ rooms) ∷ []) number place
    room_then number place (inl h) = inl (h.0, (h.1.0, any_later h.1.1))
    room_then number place (inr h) = absurd h.1

    pub rooms_clear : Clear (check_10 rooms ∷ []) → Clear (check_10 (room ∷ rooms) ∷ [])
    rooms_clear h = (all_wide (λ a. h.0 0 (refl, a)), tt)

module _ (o : Own) (t : Takes) where
  abbrev stops : List Check
  stops = check_7 o.n t.named ∷ []

  abbrev pivots : List Check
  pivots = check_8 t.pivots ∷ check_9 o.n o.A o.W (pivots_of t.pivots) ∷ []

  abbrev rooms : List Check
  rooms = check_10 t.rooms ∷ []

  abbrev last : List Check
  last = check_12 (rows_day o.rows) o.A o.W (pivots_of t.pivots) ∷ []

  abbrev then_rooms : List Check
  then_rooms = rooms ++ last

  abbrev then_pivots : List Check
  then_pivots = pivots ++ then_rooms

  module _ (c : Clear stops) where
    pub at_pivots : (number place : ℕ) → Refuses pivots number place → Refuses (own_table o t) number place
    at_pivots number place h = refuses_then stops then_pivots number place c (refuses_first pivots then_rooms number place h)

    module _ (d : Clear pivots) where
      pub at_rooms : (number place : ℕ) → Refuses rooms number place → Refuses (own_table o t) number place
      at_rooms number place h = refuses_then stops then_pivots number place c (refuses_then pivots then_rooms number place d (refuses_first rooms last number place h))

      pub all_clear : Clear rooms → Clear (own_table o t)
      all_clear h = clear_both stops then_pivots c (clear_both pivots then_rooms d (clear_both rooms last h (passes routed, tt)))
        where
          routed : Unrouted (rows_day o.rows) o.A o.W (pivots_of t.pivots) → ⊥
          routed u = u.no_route (joined_has_route o.n o.A o.W u.from u.to (pivots_of t.pivots) (none_if_no_least (Astray o.n o.A o.W (pivots_of t.pivots)) d.1.0) u.joined)
