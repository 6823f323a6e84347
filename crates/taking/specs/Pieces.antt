-- What is done with each piece of the input that is read.
use Rattle.std.specs.Prelude.{ℕ, ◌+◌, ◌≤◌, ◌<◌, ◌≡◌, List, [], ◌++◌, length}
use Rattle.printing.specs.Lines.{LineOf, frame_words}
use Rattle.taking.specs.Known.{Known, nothing}
use Rattle.taking.specs.Stream.{ended, left, Taken, Stopped}

-- the length of the longest frame's text
abbrev pub longest : ℕ
longest = 28

-- where a run stands: the number of the line that it reads, what is known, and what was read of that line
pub record Stand : Type 0 where
  pub line : ℕ
  pub known : Known
  pub begun : List ℕ

abbrev pub start : Stand
start = record { line = 1; known = nothing; begun = [] }

-- a piece goes by: its lines are taken and print the text, and what it leaves begun may still become a frame
pub record Went (s : Stand) (piece : List ℕ) (s' : Stand) (text : List ℕ) : Type 0 where
  pub line : s'.line ≡ s.line + length (ended s.begun piece)
  pub taken : Taken s.known (ended s.begun piece) s'.known text
  pub begun : s'.begun ≡ left s.begun piece
  pub short : length (left s.begun piece) ≤ longest

-- a piece ends the run: at a line that is no frame, or where a line is longer than any frame before it ends
pub data Halts (s : Stand) (piece text : List ℕ) : Type 0 where
  by_line : Stopped s.line s.known (ended s.begun piece) text → Halts s piece text
  by_length : {t : Known} {before name : List ℕ} → Taken s.known (ended s.begun piece) t before → longest < length (left s.begun piece)
      → LineOf (frame_words (s.line + length (ended s.begun piece))) name → text ≡ before ++ name → Halts s piece text
