-- What the contracts on digits and numbers cite.
use Rattle.std.specs.Prelude.{ℕ, ◌+◌, ◌^◌, ◌≤◌, ◌<◌, ◌≡◌, Bool, true, false, List, map, All, length, take, drop}
use Rattle.frames.specs.Text.{digit, digits, small}

-- b says whether P holds
abbrev pub Decides : (P : Type 0) → Bool → Type 0
Decides P true = P
Decides P false = P → ⊥

-- a byte is the digit d, in either case
pub record DigitOf (b d : ℕ) : Type 0 where
  pub below : d < 16
  pub same : small b ≡ digit d

abbrev pub IsDigit : (b : ℕ) → Type 0
IsDigit b = (d : ℕ) × DigitOf b d

abbrev pub AllDigits : (line : List ℕ) → Type 0
AllDigits line = All IsDigit line

-- a number of k digits, k at most 8, can be read from place `at` on
pub record Readable (line : List ℕ) (at k : ℕ) : Type 0 where
  pub all : AllDigits line
  pub inside : at + k ≤ length line
  pub most : k ≤ 8

-- and this is the number
pub record NumberAt (line : List ℕ) (at k x : ℕ) : Type 0 where
  pub fits : x < 16 ^ k
  pub spelt : take k (drop at (map small line)) ≡ digits k x
