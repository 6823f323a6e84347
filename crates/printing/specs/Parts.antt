-- What the contracts on the parts of a line cite.
use Rattle.std.specs.Prelude.{ℕ, ◌+◌, ◌≤◌, ◌≡◌, List, ◌++◌, length, take, drop}
use Rattle.std.specs.Borrow.{MutBor}
use Rattle.printing.specs.Lines.{Word, numeral, Spelt, LineOf}

-- a line takes at most so many bytes: four numbers of 20 digits, three spaces and a newline
abbrev pub line_room : ℕ
line_room = 84

-- a reference is the same as before, and so is its list's length
pub record SameRoom (old new : MutBor (List ℕ)) : Type 0 where
  pub same : new.ghost_name ≡ old.ghost_name
  pub long : length new.now ≡ length old.now

-- a text is put at a place; what stands before it and after it is kept
pub record Puts (at : ℕ) (text old : List ℕ) (end : ℕ) (new : List ℕ) : Type 0 where
  pub after : end ≡ at + length text
  pub holds : take end new ≡ take at old ++ text
  pub kept : drop end new ≡ drop end old

-- a number is put at a place, after some other bytes
pub record PutsNumber (bytes : List ℕ) (x at : ℕ) (old : List ℕ) (end : ℕ) (new : List ℕ) : Type 0 where
  pub text : List ℕ
  pub spelt : Spelt (numeral x) text
  pub short : length text ≤ 20
  pub puts : Puts at (bytes ++ text) old end new

-- the words' line is put at a place
pub record PutsLine (ws : List Word) (at : ℕ) (old : List ℕ) (end : ℕ) (new : List ℕ) : Type 0 where
  pub text : List ℕ
  pub line : LineOf ws text
  pub short : length text ≤ line_room
  pub puts : Puts at text old end new
