-- The whole run: the input as lines, and the output that it leads to.
use Rattle.std.specs.Prelude.{ℕ, suc, ◌≡◌, cond, List, [], ◌∷◌, ◌++◌, eqb}
use Rattle.printing.specs.Lines.{newline, LineOf, header_words, frame_words}
use Rattle.taking.specs.Known.{Known, nothing, Tells, NoFrame}

-- the lines that some bytes end, where `begun` was read of the first before them
unfoldable pub ended : (begun bytes : List ℕ) → List (List ℕ)
ended begun [] = []
ended begun (b ∷ bs) = cond (eqb b newline) (begun ∷ ended [] bs) (ended (begun ++ (b ∷ [])) bs)

-- what was then read of the next line
unfoldable pub left : (begun bytes : List ℕ) → List ℕ
left begun [] = begun
left begun (b ∷ bs) = cond (eqb b newline) (left [] bs) (left (begun ++ (b ∷ [])) bs)

-- the last line may lack its newline
unfoldable pub last_line : List ℕ → List (List ℕ)
last_line [] = []
last_line (b ∷ bs) = (b ∷ bs) ∷ []

-- the lines of an input
abbrev pub lines_of : (bytes : List ℕ) → List (List ℕ)
lines_of bytes = ended [] bytes ++ last_line (left [] bytes)

-- all of the lines are taken: what is known after them, and what they print
pub data Taken : Known → (lines : List (List ℕ)) → Known → (text : List ℕ) → Type 0 where
  no_line : {t : Known} → Taken t [] t []
  one_line : {t t' t'' : Known} {line : List ℕ} {lines : List (List ℕ)} {text more : List ℕ} → Tells t line t' text → Taken t' lines t'' more → Taken t (line ∷ lines) t'' (text ++ more)

-- the lines, the first of them number k, up to the first that is no frame: it is named, and nothing after it is read
pub data Stopped : (k : ℕ) → Known → (lines : List (List ℕ)) → (text : List ℕ) → Type 0 where
  at_this : {k : ℕ} {t : Known} {line : List ℕ} {lines : List (List ℕ)} {text : List ℕ} → NoFrame t line → LineOf (frame_words k) text → Stopped k t (line ∷ lines) text
  at_later : {k : ℕ} {t t' : Known} {line : List ℕ} {lines : List (List ℕ)} {text more : List ℕ} → Tells t line t' text → Stopped (suc k) t' lines more → Stopped k t (line ∷ lines) (text ++ more)

-- what the lines of an input print, from line k on
pub data Prints (k : ℕ) (t : Known) (lines : List (List ℕ)) (text : List ℕ) : Type 0 where
  to_end : {t' : Known} → Taken t lines t' text → Prints k t lines text
  to_stop : Stopped k t lines text → Prints k t lines text

-- the output: the header, and what the lines of the input print
pub record Output (input output : List ℕ) : Type 0 where
  pub header : List ℕ
  pub text : List ℕ
  pub header_line : LineOf header_words header
  pub prints : Prints 1 nothing (lines_of input) text
  pub whole : output ≡ header ++ text
