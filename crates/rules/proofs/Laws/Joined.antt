-- A joined pair always has a compatible route: number 12 is never given.
use Rattle.std.specs.Prelude.{ℕ, suc, ◌≤◌, ◌<◌, ◌≡◌, ◌≢◌}
use Rattle.std.proofs.Common.{sym, ◌∙◌, inl, inr, arith}
use mathlib.Core.List.{List, [], ◌∷◌, ◌++◌, Memᴰ}
use Rattle.std.proofs.Math.Decide.{dec_le}
use Rattle.rules.specs.Words.{Least, At, at_first, at_later}
use Rattle.rules.specs.Day.{Row, Day, Ask, asker's_day}
use Rattle.rules.specs.Routes.{Follows, Route, ride, onto, Compatible}
use Rattle.rules.specs.Pivots.{Pivot, pivots_of, Into, Onward, Joins, Joined, Astray, no_stop, too_early, too_late}
use Rattle.rules.specs.Table.{Check, when, Takes, Unrouted, table, Clear, Refuses}
use Rattle.rules.proofs.Laws.Good.{none_if_no_least}
use Rattle.rules.specs.Faultless.{Sits}

-- routes one after the other
pub join : {day : Day} {f q g l : Row} → Route day f q → Follows day q g → Route day g l → Route day f l
join (ride m) w p = onto m w p
join (onto m x r) w p = onto m x (join r w p)

pub joins_has_route : {day : Day} {A W u v : ℕ} {p : Pivot} → A ≤ p.reading → p.reading ≤ W → Joins day A W u v p → Compatible day A W u v
joins_has_route {day} {A} {W} {u} {v} {p} a w j = go j.into j.onward
  where
    go : Into day A u p → Onward day W v p → Compatible day A W u v
    go (inl e) (inl f) = absurd (j.differ (e ∙ sym f))
    go (inl e) (inr o) =
        record { first = o.first; last = o.last; route = o.route; leaves = o.leaves ∙ sym e; enters = o.enters; begins = omega arith; ends = o.ends }
    go (inr i) (inl f) =
        record { first = i.first; last = i.last; route = i.route; leaves = i.leaves; enters = i.enters ∙ sym f; begins = i.begins; ends = omega arith }
    go (inr i) (inr o) =
        record {
          first = i.first;
          last = o.last;
          route = join i.route (record { meets = o.leaves ∙ sym i.enters; waits = omega arith }) o.route;
          leaves = i.leaves;
          enters = o.enters;
          begins = i.begins;
          ends = o.ends;
        }

member_at : {A : Type 0} {x : A} {xs : List A} → Memᴰ x xs → (i : ℕ) × At xs i x
member_at {A} {x} {xs} (Memᴰ.head {xs = ys} e) = (0, rw (sym e) at_first)
member_at (Memᴰ.tail m) = let t = member_at m in (suc t.0, at_later t.1)

-- where no pivot is astray, each sits
pub none_astray_sits : (n A W : ℕ) (pivots : List Pivot) → ((i : ℕ) → Astray n A W pivots i → ⊥) → (p : Pivot) → Memᴰ p pivots → Sits n A W p
none_astray_sits n A W pivots none p m = record { below = below (dec_le n p.stop); not_before = early (dec_le A p.reading); not_after = late (dec_le p.reading W) }
  where
    i : ℕ
    i = (member_at m).0

    here : At pivots i p
    here = (member_at m).1

    below : Dec (n ≤ p.stop) → p.stop < n
    below (yes d) = absurd (none i (no_stop here d))
    below (no d) = omega arith

    early : Dec (A ≤ p.reading) → A ≤ p.reading
    early (yes d) = d
    early (no d) = absurd (none i (too_early here (omega arith)))

    late : Dec (p.reading ≤ W) → p.reading ≤ W
    late (yes d) = d
    late (no d) = absurd (none i (too_late here (omega arith)))

pub joined_has_route : {day : Day} (n A W u v : ℕ) (pivots : List Pivot) → ((i : ℕ) → Astray n A W pivots i → ⊥) → Joined day A W pivots u v → Compatible day A W u v
joined_has_route n A W u v pivots none j =
    let s : Sits n A W j.pivot = none_astray_sits n A W pivots none j.pivot j.listed in joins_has_route s.not_before s.not_after j.joins

-- a last check that cannot be given where the others are clear may be left out
last_out : (cs : List Check) (c : Check) → (Clear cs → (place : ℕ) → c.given place → ⊥) → (k p : ℕ) → Refuses (cs ++ (c ∷ [])) k p → Refuses cs k p
last_out [] c never k p (inl x) = never tt p x.1
last_out [] c never k p (inr x) = x.1
last_out (d ∷ ds) c never k p (inl x) = inl x
last_out (d ∷ ds) c never k p (inr x) = inr (x.0, last_out ds c (λ clear. never (x.0, clear)) k p x.1)

-- a number that no check has is never given
abbrev Avoids : ℕ → List Check → Type 0
Avoids k [] = Unit {0}
Avoids k (c ∷ cs) = (k ≢ c.number) × Avoids k cs

avoided : (cs : List Check) (k p : ℕ) → Avoids k cs → Refuses cs k p → ⊥
avoided (c ∷ cs) k p a (inl x) = a.0 x.0
avoided (c ∷ cs) k p a (inr x) = avoided cs k p a.1 x.1
avoided [] k p a x'' = elim x'' [ ]

-- the table up to 10: all of it but the last
abbrev pub but_last : List Check → List Check
but_last [] = []
but_last (c ∷ []) = []
but_last (c ∷ d ∷ ds) = c ∷ but_last (d ∷ ds)

abbrev pub up_to10 : Ask → Takes → List Check
up_to10 q t = but_last (table q t)

not_12 : (q : Ask) (t : Takes) → Clear (up_to10 q t) → (place : ℕ) → (place ≡ 0) × Unrouted (asker's_day q) q.A q.W (pivots_of t.pivots) → ⊥
not_12 q t clear place x =
    let u : Unrouted (asker's_day q) q.A q.W (pivots_of t.pivots) = x.1 in
    let none : (i : ℕ) → Least (Astray q.n q.A q.W (pivots_of t.pivots)) i → ⊥ = clear.1.1.1.1.1.1.1.1.0 in
    u.no_route (joined_has_route q.n q.A q.W u.from u.to (pivots_of t.pivots) (none_if_no_least _ none) u.joined)

-- the table refuses as it would without 12
pub without_12 : (q : Ask) (t : Takes) (k p : ℕ) → Refuses (table q t) k p → Refuses (up_to10 q t) k p
without_12 q t k p r = last_out (up_to10 q t) (when 12 (Unrouted (asker's_day q) q.A q.W (pivots_of t.pivots))) (not_12 q t) k p r

more_checks : (cs : List Check) (c : Check) (k p : ℕ) → Refuses cs k p → Refuses (cs ++ (c ∷ [])) k p
more_checks (d ∷ ds) c k p (inl x) = inl x
more_checks (d ∷ ds) c k p (inr x) = inr (x.0, more_checks ds c k p x.1)
more_checks [] c k p x' = elim x' [ ]

pub with_12 : (q : Ask) (t : Takes) (k p : ℕ) → Refuses (up_to10 q t) k p → Refuses (table q t) k p
with_12 q t k p r = more_checks (up_to10 q t) (when 12 (Unrouted (asker's_day q) q.A q.W (pivots_of t.pivots))) k p r

pub never_12 : (q : Ask) (t : Takes) (p : ℕ) → Refuses (table q t) 12 p → ⊥
never_12 q t p r = avoided (up_to10 q t) 12 p (omega arith) (without_12 q t 12 p r)

-- and an answer comes where the others are clear
app_clear : (cs : List Check) (c : Check) → (Clear cs → (place : ℕ) → c.given place → ⊥) → Clear cs → Clear (cs ++ (c ∷ []))
app_clear [] c never h = (never tt, tt)
app_clear (d ∷ ds) c never h = (h.0, app_clear ds c (λ clear. never (h.0, clear)) h.1)

pub clear_without_12 : (q : Ask) (t : Takes) → Clear (up_to10 q t) → Clear (table q t)
clear_without_12 q t h = app_clear (up_to10 q t) (when 12 (Unrouted (asker's_day q) q.A q.W (pivots_of t.pivots))) (not_12 q t) h
