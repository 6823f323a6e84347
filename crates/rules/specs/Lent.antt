-- What a call writes into the lists that it is lent.
use Rattle.std.specs.Prelude.{ℕ, ◌+◌, ◌*◌, ◌≤◌, ◌<◌, ◌≡◌, Bool, cond, List, ◌++◌, length, get_or, drop}
use Rattle.std.proofs.lemmas.List.Edits.{sets}
use Rattle.rules.specs.Words.{written}
use Rattle.rules.specs.Day.{Day}
use Rattle.rules.specs.Routes.{Dist, Earliest, in_numbers}

-- the first k places are filled rightly, and the rest is kept
pub record Fills (k : ℕ) (Right : (place number : ℕ) → Type 0) (old new : List ℕ) : Type 0 where
  pub same_length : length new ≡ length old
  pub right : (i : ℕ) → i < k → Right i (get_or new i 0)
  pub kept : (i : ℕ) → k ≤ i → get_or new i 0 ≡ get_or old i 0

-- a call that is lent scratch wants this many places of it
abbrev pub scratch_places : ℕ
scratch_places = 16384

-- scratch: its first 16,384 places become 0
abbrev pub Wiped : (old new : List ℕ) → Type 0
Wiped = Fills scratch_places (λ place number. number ≡ 0)

-- a number that stands for the distance from u to v
pub record Stands (day : Day) (A W u v : ℕ) (number : ℕ) : Type 0 where
  pub distance : Dist
  pub is : Earliest day A W u v distance
  pub as_number : number ≡ in_numbers distance

-- things stand at the front of a room, each as `width` parts, and the places after them are kept
pub record Copied {A B : Type 0} (width : ℕ) (parts : A → List B) (xs : List A) (old : List B) (count : ℕ) (new : List B) : Type 0 where
  pub number : count ≡ length xs
  pub list : new ≡ written parts xs ++ drop (count * width) old

-- one more thing after the first k, where b says so
pub record Kept {A B : Type 0} (width : ℕ) (parts : A → List B) (b : Bool) (x : A) (k : ℕ) (old : List B) (count : ℕ) (new : List B) : Type 0 where
  pub number : count ≡ cond b (k + 1) k
  pub list : new ≡ cond b (sets old (k * width) (parts x)) old
