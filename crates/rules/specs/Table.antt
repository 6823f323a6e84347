-- Numbers of the table.
use Rattle.std.specs.Prelude.{ℕ, ◌%◌, ◌≤◌, ◌<◌, ◌≡◌, ◌≢◌, ◌⊎◌, List, [], ◌∷◌, length}
use Rattle.rules.specs.Words.{Least, Any}
use Rattle.rules.specs.Clock.{horizon}
use Rattle.rules.specs.Day.{most_stops, most_rows, last_client, row_width, Row, rows_of, Faulty, Overowned, Day, Ask, asker's_rows}
use Rattle.rules.specs.Routes.{Compatible}
use Rattle.rules.specs.Pivots.{Pivot, most_pivots, pivots_of, Joined, Astray}

-- a check: its number, and the places with which it is given
pub record Check : Type 1 where
  pub number : ℕ
  pub given : ℕ → Type 0

-- given when P holds, with place 0
abbrev pub when : ℕ → Type 0 → Check
when k P = record { number = k; given = λ place. (place ≡ 0) × P }

-- given when P holds of some place, with the first such
abbrev pub check_at_first : ℕ → (ℕ → Type 0) → Check
check_at_first k P = record { number = k; given = Least P }

-- the number of every fault of a row
abbrev pub row_fault : ℕ
row_fault = 6

-- a lent list: how long it is, and how long it must be
pub record Room : Type 0 where
  pub has : ℕ
  pub wants : ℕ

-- what a call takes besides: the stops that it names, its pivots as numbers, and its lent lists; an empty list where it takes none
pub record Takes : Type 0 where
  pub named : List ℕ
  pub pivots : List ℕ
  pub rooms : List Room

-- two stops are joined, and no compatible route goes from one to the other
pub record Unrouted (day : Day) (A W : ℕ) (pivots : List Pivot) : Type 0 where
  pub from : ℕ
  pub to : ℕ
  pub joined : Joined day A W pivots from to
  pub no_route : Compatible day A W from to → ⊥

-- list length is not a multiple of 5
abbrev pub check_1 : (list : List ℕ) → Check
check_1 list = when 1 (length list % row_width ≢ 0)

-- more than 2,048 rows
abbrev pub check_2 : (list : List ℕ) → Check
check_2 list = when 2 (most_rows < length (rows_of list))

-- n is 0 or above 256
abbrev pub check_3 : (n : ℕ) → Check
check_3 n = when 3 ((n ≡ 0) ⊎ (most_stops < n))

-- asker above 255
abbrev pub check_4 : (asker : ℕ) → Check
check_4 asker = when 4 (last_client < asker)

-- A > W, or W above the horizon
abbrev pub check_5 : (A W : ℕ) → Check
check_5 A W = when 5 ((W < A) ⊎ (horizon < W))

-- an asker's row is not sound, or starts before the asker's row preceding it; with the first such row's number
abbrev pub check_6 : (n : ℕ) → List Row → Check
check_6 n rs = check_at_first row_fault (Faulty n rs)

-- named source or target is not below n
abbrev pub check_7 : (n : ℕ) → (named : List ℕ) → Check
check_7 n named = when 7 (Any (λ stop. n ≤ stop) named)

-- pivot list has odd length, or more than 16 pivots
abbrev pub check_8 : (pivots : List ℕ) → Check
check_8 pivots = when 8 ((length pivots % 2 ≢ 0) ⊎ (most_pivots < length (pivots_of pivots)))

-- a pivot's stop is not below n, or its reading lies outside A to W; with the first such pivot's number
abbrev pub check_9 : (n A W : ℕ) → List Pivot → Check
check_9 n A W pivots = check_at_first 9 (Astray n A W pivots)

-- a lent list is shorter than wanted
abbrev pub check_10 : List Room → Check
check_10 rooms = when 10 (Any (λ room. room.has < room.wants) rooms)

-- a joined pair turns out to have no route
abbrev pub check_12 : (day : Day) (A W : ℕ) → List Pivot → Check
check_12 day A W pivots = when 12 (Unrouted day A W pivots)

-- the table from 3 on: of the list it reads the asker's rows alone
abbrev pub table_of_rows : List Row → Ask → Takes → List Check
table_of_rows rs q t =
    check_3 q.n
    ∷ check_4 q.asker
    ∷ check_5 q.A q.W
    ∷ check_6 q.n rs
    ∷ check_7 q.n t.named
    ∷ check_8 t.pivots
    ∷ check_9 q.n q.A q.W (pivots_of t.pivots)
    ∷ check_10 t.rooms
    ∷ check_12 (record { rows = rs }) q.A q.W (pivots_of t.pivots)
    ∷ []

-- the table, in its order
abbrev pub table : Ask → Takes → List Check
table q t = check_1 q.list ∷ check_2 q.list ∷ table_of_rows (asker's_rows q) q t

-- row i is the first that has a fault or an owner above 255, and P holds of it
pub record FirstWrong (n : ℕ) (rs : List Row) (P : ℕ → Type 0) (i : ℕ) : Type 0 where
  pub first : Least (λ j. Faulty n rs j ⊎ Overowned rs j) i
  pub wrong : P i

-- row by row 6, and 11 for an owner above 255; on one row 6 goes before 11
abbrev pub office_rows : (n : ℕ) → List Row → List Check
office_rows n rs =
    record { number = row_fault; given = FirstWrong n rs (Faulty n rs) }
    ∷ record { number = 11; given = FirstWrong n rs (Overowned rs) }
    ∷ []

-- the office check reads all rows: 1, 2, 3, then row by row
abbrev pub office_table : (list : List ℕ) (n : ℕ) → List Check
office_table list n = check_1 list ∷ check_2 list ∷ check_3 n ∷ office_rows n (rows_of list)

-- no check is given
abbrev pub Clear : List Check → Type 0
Clear [] = Unit {0}
Clear (c ∷ cs) = ((place : ℕ) → c.given place → ⊥) × Clear cs

-- the first check that is given, in the order of the list, with its number and place
abbrev pub Refuses : List Check → (number place : ℕ) → Type 0
Refuses [] number place = ⊥
Refuses (c ∷ cs) number place =
    ((number ≡ c.number) × c.given place) ⊎ (((p : ℕ) → c.given p → ⊥) × Refuses cs number place)
