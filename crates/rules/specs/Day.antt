-- Day list and who reads it.
use Rattle.std.specs.Prelude.{ℕ, ◌+◌, ◌*◌, ◌/◌, ◌≤◌, ◌<◌, ◌≡◌, ◌≢◌, Bool, ◌||◌, cond, List, [], ◌∷◌, eqb, length, get_or}
use Rattle.rules.specs.Words.{At, things_from}
use Rattle.rules.specs.Clock.{horizon}

-- stops are 0 to n - 1, with n from 1 to 256
abbrev pub most_stops : ℕ
most_stops = 256

-- at most 2,048 rows
abbrev pub most_rows : ℕ
most_rows = 2048

-- an owner or an asker is 0 to 255
abbrev pub last_client : ℕ
last_client = 255

-- a row
pub record Row : Type 0 where
  pub from : ℕ
  pub to : ℕ
  pub start : ℕ
  pub travel : ℕ
  pub owner : ℕ

-- when a row arrives: a reading plus a length
abbrev pub arrival : Row → ℕ
arrival r = r.start + r.travel

-- a row takes five numbers of a list
abbrev pub row_width : ℕ
row_width = 5

-- row i of a list of numbers, from 0
abbrev pub row_at : List ℕ → ℕ → Row
row_at list i =
    record {
      from = get_or list (i * row_width) 0;
      to = get_or list (i * row_width + 1) 0;
      start = get_or list (i * row_width + 2) 0;
      travel = get_or list (i * row_width + 3) 0;
      owner = get_or list (i * row_width + 4) 0;
    }

-- the rows of a list of numbers
abbrev pub rows_of : List ℕ → List Row
rows_of list = things_from (row_at list) (length list / row_width) 0

-- the asker sees rows whose owner is 0, public, or the asker
abbrev pub sees : (asker : ℕ) → Row → Bool
sees asker r = eqb r.owner 0 || eqb r.owner asker

-- the asker's rows, in list order
unfoldable pub own : (asker : ℕ) → List Row → List Row
own asker [] = []
own asker (r ∷ rs) = let rest = own asker rs in cond (sees asker r) (r ∷ rest) rest

-- a row is sound; what it is asked, each by its name, in the document's order
pub record Sound (n : ℕ) (r : Row) : Type 0 where
  pub from_below : r.from < n
  pub to_below : r.to < n
  pub differ : r.from ≢ r.to
  pub travels : 1 ≤ r.travel
  pub in_day : arrival r ≤ horizon

-- row i is not sound, or starts before the row preceding it
pub data Faulty (n : ℕ) (rs : List Row) (i : ℕ) : Type 0 where
  unsound : {r : Row} → At rs i r → (Sound n r → ⊥) → Faulty n rs i
  falls : {q r : Row} {j : ℕ} → At rs j q → At rs i r → i ≡ j + 1 → r.start < q.start → Faulty n rs i

-- row i has an owner above 255
pub data Overowned (rs : List Row) (i : ℕ) : Type 0 where
  overowned : {r : Row} → At rs i r → last_client < r.owner → Overowned rs i

-- what routes read of a day; every definition on routes takes the day whole, so that this is said in one place
pub record Day : Type 0 where
  pub rows : List Row

-- what every ask brings: the whole list, the number of stops, the asker, and the interval from A to W
pub record Ask : Type 0 where
  pub list : List ℕ
  pub n : ℕ
  pub asker : ℕ
  pub A : ℕ
  pub W : ℕ

-- the rows that the asker sees
abbrev pub asker's_rows : Ask → List Row
asker's_rows q = own q.asker (rows_of q.list)

-- the day as the asker sees it: the asker's rows and no others
abbrev pub asker's_day : Ask → Day
asker's_day q = record { rows = asker's_rows q }
