-- The lines of the output, and how they are made.
use Rattle.std.specs.Prelude.{ℕ, ◌≡◌, List, [], ◌∷◌, ◌++◌}
use Rattle.io.specs.Digits.{last_digits, IsDigitCount}
use Rattle.figures.specs.declared.answers.Answer.{Answer}
use Rattle.figures.specs.declared.answers.Answer.TheVariants as answer

-- a word of a line: letters, or a number in decimal
pub data Word : Type 0 where
  letters : List ℕ → Word
  numeral : ℕ → Word

-- what a word is written as: a number has no more digits than it needs
pub data Spelt : Word → List ℕ → Type 0 where
  as_letters : {s : List ℕ} → Spelt (letters s) s
  in_decimal : {x : ℕ} {s : List ℕ} (k : ℕ) → IsDigitCount 10 1 x k → s ≡ last_digits 10 k x → Spelt (numeral x) s

abbrev pub space : ℕ
space = 32

abbrev pub newline : ℕ
newline = 10

abbrev pub value : List ℕ
value = 118 ∷ 97 ∷ 108 ∷ 117 ∷ 101 ∷ []

abbrev pub from : List ℕ
from = 102 ∷ 114 ∷ 111 ∷ 109 ∷ []

abbrev pub to : List ℕ
to = 116 ∷ 111 ∷ []

abbrev pub visits : List ℕ
visits = 118 ∷ 105 ∷ 115 ∷ 105 ∷ 116 ∷ 115 ∷ []

abbrev pub none : List ℕ
none = 110 ∷ 111 ∷ 110 ∷ 101 ∷ []

abbrev pub refused : List ℕ
refused = 114 ∷ 101 ∷ 102 ∷ 117 ∷ 115 ∷ 101 ∷ 100 ∷ []

abbrev pub frame : List ℕ
frame = 102 ∷ 114 ∷ 97 ∷ 109 ∷ 101 ∷ []

-- words with one space between them
pub data Spaced : List Word → List ℕ → Type 0 where
  last : {w : Word} {s : List ℕ} → Spelt w s → Spaced (w ∷ []) s
  more : {w v : Word} {ws : List Word} {s rest : List ℕ} → Spelt w s → Spaced (v ∷ ws) rest → Spaced (w ∷ v ∷ ws) (s ++ (space ∷ rest))

-- a line: its words, and a newline
pub record LineOf (ws : List Word) (text : List ℕ) : Type 0 where
  pub before : List ℕ
  pub spaced : Spaced ws before
  pub whole : text ≡ before ++ (newline ∷ [])

-- the words of the header
abbrev pub header_words : List Word
header_words = letters value ∷ letters from ∷ letters to ∷ letters visits ∷ []

-- the words of an answer's line
abbrev pub words_of : Answer → List Word
words_of (answer.Value value from to visits) = numeral value.0 ∷ numeral from ∷ numeral to ∷ numeral visits ∷ []
words_of (answer.Nothing visits) = letters none ∷ numeral visits ∷ []
words_of (answer.Refused number place) = letters refused ∷ numeral number ∷ numeral place ∷ []

-- the words that name line k of the input
abbrev pub frame_words : (k : ℕ) → List Word
frame_words k = letters frame ∷ numeral k ∷ []
