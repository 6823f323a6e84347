-- Striking out the rows that the asker does not see.
use Rattle.std.specs.Prelude.{ℕ, ◌%◌, ◌≤◌, ◌≡◌, List, [], ◌∷◌, length}
use Rattle.rules.specs.Words.{written}
use Rattle.rules.specs.Day.{most_rows, row_width, Row, rows_of, own}

-- whole rows, and at most 2,048 of them
pub record Fit (list : List ℕ) : Type 0 where
  pub whole : length list % row_width ≡ 0
  pub few : length (rows_of list) ≤ most_rows

-- a row as numbers again
abbrev pub numbers : Row → List ℕ
numbers r = r.from ∷ r.to ∷ r.start ∷ r.travel ∷ r.owner ∷ []

abbrev pub numbers_of : List Row → List ℕ
numbers_of = written numbers

-- the list of the asker's rows alone
abbrev pub struck : (asker : ℕ) → List ℕ → List ℕ
struck asker list = numbers_of (own asker (rows_of list))

-- two fit lists with the same rows of the asker, in the same order
pub record SameToAsker (asker : ℕ) (list other : List ℕ) : Type 0 where
  pub fit : Fit list
  pub other_fit : Fit other
  pub same_rows : own asker (rows_of list) ≡ own asker (rows_of other)
