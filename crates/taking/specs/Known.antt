-- What the lines of the input do: what is known after each, and what it prints.
use Rattle.std.specs.Prelude.{ℕ, ◌*◌, ◌<◌, ◌≡◌, Option, Some, None, List, [], ◌∷◌, ◌++◌, length, get_or}
use Rattle.std.proofs.Math.Nat.{ℕ_set}
use Rattle.rules.specs.Day.{most_rows, row_width}
use Rattle.rules.specs.Pivots.{most_pivots}
use Rattle.rules.specs.Lent.{scratch_places}
use Rattle.figures.specs.declared.answers.Answer.{Answer}
use Rattle.figures.specs.Promises.{ask, PivotDiameterPromise}
use Rattle.frames.specs.declared.frame.Frame.{Frame}
use Rattle.frames.specs.declared.frame.Frame.TheVariants as frame
use Rattle.frames.specs.Text.{IsTextOf}
use Rattle.printing.specs.Lines.{LineOf, words_of}

-- what is known of the day: the number of stops if it was given, and the rows and pivots read so far, as numbers
pub record Known : Type 0 where
  pub stops : Option ℕ
  pub rows : List ℕ
  pub pivots : List ℕ

abbrev pub nothing : Known
nothing = record { stops = None; rows = []; pivots = [] }

abbrev pub with_stops : Known → (n : ℕ) → Known
with_stops t n = record { stops = Some n; rows = t.rows; pivots = t.pivots }

abbrev pub with_row : Known → (row : List ℕ) → Known
with_row t row = record { stops = t.stops; rows = t.rows ++ row; pivots = t.pivots }

abbrev pub with_pivot : Known → (pivot : List ℕ) → Known
with_pivot t pivot = record { stops = t.stops; rows = t.rows; pivots = t.pivots ++ pivot }

-- a pivot takes two numbers of a list
abbrev pub pivot_width : ℕ
pivot_width = 2

-- k places, all 0
pub record Zeros (k : ℕ) (xs : List ℕ) : Type 0 where
  pub long : length xs ≡ k
  pub zeros : (i : ℕ) → get_or xs i 0 ≡ 0

pub zeros_prop : (k : ℕ) (xs : List ℕ) → IsProp (Zeros k xs)
zeros_prop k xs = λ a b i. record { long = ℕ_set _ _ a.long b.long i; zeros = λ j. ℕ_set _ _ (a.zeros j) (b.zeros j) i }

-- the text is the line of an answer to the ask over the rows and pivots read so far, with scratch of zeros
pub record Answered (t : Known) (n asker A W : ℕ) (text : List ℕ) : Type 0 where
  pub answer : Answer
  pub scratch : List ℕ
  pub scratch' : List ℕ
  pub zeros : Zeros scratch_places scratch
  pub promised : PivotDiameterPromise (ask t.rows n asker A W) t.pivots scratch answer scratch'
  pub line : LineOf (words_of answer) text

-- what a frame does: the number of stops comes first and once, a row and a pivot have their limits, and an ask prints its answer
pub data Does (t : Known) : Frame → Known → (text : List ℕ) → Type 0 where
  stops : {n : ℕ} → t.stops ≡ None → Does t (frame.Stops n) (with_stops t n) []
  row : {n from to start travel owner : ℕ} → t.stops ≡ Some n → length t.rows < most_rows * row_width
      → Does t (frame.Row from to start travel owner) (with_row t (from ∷ to ∷ start ∷ travel ∷ owner ∷ [])) []
  pivot : {n stop reading : ℕ} → t.stops ≡ Some n → length t.pivots < most_pivots * pivot_width
      → Does t (frame.Pivot stop reading) (with_pivot t (stop ∷ reading ∷ [])) []
  asks : {n asker A W : ℕ} {text : List ℕ} → t.stops ≡ Some n → Answered t n asker A W text → Does t (frame.Ask asker A W) t text

-- what a line does is what the frame does that it is the text of
pub record Tells (t : Known) (line : List ℕ) (t' : Known) (text : List ℕ) : Type 0 where
  pub frame : Frame
  pub is_text : IsTextOf frame line
  pub does : Does t frame t' text

-- a line that is no such frame, or a row or pivot over the limit
abbrev pub NoFrame : Known → (line : List ℕ) → Type 0
NoFrame t line = (t' : Known) (text : List ℕ) → Tells t line t' text → ⊥
