-- Rows read from a list of numbers, and written as numbers again.
use Rattle.std.specs.Prelude.{ℕ, suc, ◌+◌, ◌*◌, ◌%◌, ◌/◌, ◌≡◌, refl, List, ◌++◌, length, get_or}
use Rattle.std.proofs.Common.{arith, get_or-append-add}
use Rattle.rules.specs.Day.{row_width, Row, row_at, rows_of}
use Rattle.rules.specs.Struck.{numbers, numbers_of}
use Rattle.rules.proofs.Laws.Written.{length_things, length_written, written_read}

pub length_rows : (list : List ℕ) → length (rows_of list) ≡ length list / row_width
length_rows list = length_things (row_at list) (length list / row_width) 0

past_row : (r : Row) (list : List ℕ) (j k : ℕ) → k ≡ row_width + j → get_or (numbers r ++ list) k 0 ≡ get_or list j 0
past_row r list j k e = rw e (get_or-append-add (numbers r) list j 0)

next_row : (r : Row) (list : List ℕ) (i : ℕ) → row_at (numbers r ++ list) (suc i) ≡ row_at list i
next_row r list i =
    cc (
      past_row r list (i * row_width) (suc i * row_width) (omega arith),
      past_row r list (i * row_width + 1) (suc i * row_width + 1) (omega arith),
      past_row r list (i * row_width + 2) (suc i * row_width + 2) (omega arith),
      past_row r list (i * row_width + 3) (suc i * row_width + 3) (omega arith),
      past_row r list (i * row_width + 4) (suc i * row_width + 4) (omega arith),
    )

pub length_numbers : (rs : List Row) → length (numbers_of rs) ≡ length rs * row_width
length_numbers = length_written row_width numbers (λ r. refl)

-- rows written as numbers are read again
pub rows_of_numbers : (rs : List Row) → rows_of (numbers_of rs) ≡ rs
rows_of_numbers rs =
    let e : length (numbers_of rs) / row_width ≡ length rs = omega (arith, length_numbers rs) in
    rw e (written_read row_width numbers (λ r. refl) row_at next_row rs (λ r m list. refl))

pub numbers_whole : (rs : List Row) → length (numbers_of rs) % row_width ≡ 0
numbers_whole rs = omega (arith, length_numbers rs)
