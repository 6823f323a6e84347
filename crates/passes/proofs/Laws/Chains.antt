-- Routes over rows whose starts do not fall: a route lies in the later rows, or is the first row alone, or begins with it.
use Rattle.std.specs.Prelude.{◌≤◌, ◌<◌, ◌≡◌}
use Rattle.std.proofs.Common.{ap, arith}
use mathlib.Core.List.Memᴰ
use mathlib.Core.List.{List, [], ◌∷◌, Memᴰ}
use Rattle.rules.specs.Day.{Row, arrival}
use Rattle.rules.specs.Routes.{Follows, Route, ride, onto}
use Rattle.passes.specs.Days.{rows_day}

-- when a row may follow another does not depend on what other rows there are
pub follows : {rs qs : List Row} {q r : Row} → Follows (rows_day rs) q r → Follows (rows_day qs) q r
follows w = record { meets = w.meets; waits = w.waits }

-- how a route over r ∷ rs begins
pub data Uncons (r : Row) (rs : List Row) (f l : Row) : Type 0 where
  in_tail : Route (rows_day rs) f l → Uncons r rs f l
  alone : f ≡ r → l ≡ r → Uncons r rs f l
  leads : {q : Row} → f ≡ r → Follows (rows_day rs) f q → Route (rows_day rs) q l → Uncons r rs f l

abbrev pub Moves : List Row → Type 0
Moves rs = (q : Row) → Memᴰ q rs → 1 ≤ q.travel

starts : {q r : Row} → q ≡ r → q.start ≡ r.start
starts e = ap (λ (x : Row). x.start) e

-- a route that starts after r does not use r
shrink : {r : Row} {rs : List Row} {f l : Row} → Moves (r ∷ rs) → Route (rows_day (r ∷ rs)) f l → r.start < f.start → Route (rows_day rs) f l
shrink mv (ride (Memᴰ.head e)) h = absurd (omega (arith, starts e))
shrink mv (ride (Memᴰ.tail m)) h = ride m
shrink mv (onto (Memᴰ.head e) w p) h = absurd (omega (arith, starts e))
shrink mv (onto {first = f} (Memᴰ.tail m) w p) h = onto m (follows w) (shrink mv p (omega (arith, mv f (Memᴰ.tail m))))

pub uncons : {r : Row} {rs : List Row} {f l : Row} → Moves (r ∷ rs) → ((q : Row) → Memᴰ q rs → r.start ≤ q.start) → Route (rows_day (r ∷ rs)) f l → Uncons r rs f l
uncons mv up (ride (Memᴰ.head e)) = alone e e
uncons mv up (ride (Memᴰ.tail m)) = in_tail (ride m)
uncons mv up (onto {first = f} (Memᴰ.head e) w p) = leads e (follows w) (shrink mv p (omega (arith, starts e, mv f (Memᴰ.head e))))
uncons mv up (onto {first = f} (Memᴰ.tail m) w p) = in_tail (onto m (follows w) (shrink mv p (omega (arith, up f m, mv f (Memᴰ.tail m)))))

-- a route over rs is one over r ∷ rs
pub widen : {r : Row} {rs : List Row} {f l : Row} → Route (rows_day rs) f l → Route (rows_day (r ∷ rs)) f l
widen (ride m) = ride (Memᴰ.tail m)
widen (onto m w p) = onto (Memᴰ.tail m) (follows w) (widen p)

-- a route takes no negative time
pub spans : {rs : List Row} {f l : Row} → Route (rows_day rs) f l → f.start ≤ arrival l
spans (ride m) = omega arith
spans (onto m w p) = omega (arith, spans p)

pub empty_route : {f l : Row} → Route (rows_day []) f l → ⊥
empty_route (ride m) = Memᴰ.not-nil m
empty_route (onto m w p) = Memᴰ.not-nil m
