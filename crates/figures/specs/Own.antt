-- What a call is over once foreign rows are struck out, and what it owes there.
use Rattle.std.specs.Prelude.{ℕ, ◌≡◌, List, Result, Ok, Err}
use Rattle.rules.specs.Day.{Row, rows_of, Ask, asker's_rows}
use Rattle.rules.specs.Diameter.{LatestEntry}
use Rattle.rules.specs.Pivots.{pivots_of, LatestUnder}
use Rattle.rules.specs.Lent.{Stands}
use Rattle.rules.specs.Table.{Check, Takes, Clear, Refuses}
use Rattle.passes.specs.Days.{rows_day}
use Rattle.search.specs.Found.{ReachedPairs, ReachedJoined}
use Rattle.day.specs.Refusals.{number_of, place_of}
use Rattle.day.specs.declared.refusal.Refusal.{Refusal}
use Rattle.figures.specs.Parts.{first_checks, last_checks, Stretched}
use Rattle.figures.specs.declared.own.Own as declared

-- own rows, the number of stops, and the interval
pub record Own : Type 0 where
  pub rows : List Row
  pub n : ℕ
  pub A : ℕ
  pub W : ℕ

abbrev pub owned : declared.Own → Own
owned o = record { rows = rows_of o.rows.now; n = o.n; A = o.a.0; W = o.w.0 }

abbrev pub own_of : Ask → Own
own_of q = record { rows = asker's_rows q; n = q.n; A = q.A; W = q.W }

-- numbers 1 to 6 by cases: the asker's own rows, or a refusal
abbrev pub Owns : Ask → Result declared.Own Refusal → Type 0
Owns q (Ok o) = Clear (first_checks q) × (owned o ≡ own_of q)
Owns q (Err r) = Refuses (first_checks q) (number_of r) (place_of r)

-- numbers 7 to 12
abbrev pub own_table : Own → Takes → List Check
own_table o t = last_checks o.rows o.n o.A o.W t

-- the number that stands for the distance from u to v, over own rows
abbrev pub OwnDistance : Own → (u v number : ℕ) → Type 0
OwnDistance o = Stands (rows_day o.rows) o.A o.W

-- the table, the reached pairs and the bounds, over own rows
abbrev pub OwnTable : Own → (place number : ℕ) → Type 0
OwnTable o = Stretched o.rows o.n o.A o.W

abbrev pub OwnPairs : Own → (u v d : ℕ) → Type 0
OwnPairs o = ReachedPairs o.rows o.A o.W o.n

abbrev pub OwnBounds : Own → (v b : ℕ) → Type 0
OwnBounds o = LatestEntry (rows_day o.rows) o.A o.W

-- the same under pivots
abbrev pub OwnJoined : Own → (pivots : List ℕ) → (u v d : ℕ) → Type 0
OwnJoined o pivots = ReachedJoined o.rows o.A o.W o.n (pivots_of pivots)

abbrev pub OwnUnder : Own → (pivots : List ℕ) → (v b : ℕ) → Type 0
OwnUnder o pivots = LatestUnder (rows_day o.rows) o.A o.W (pivots_of pivots)
