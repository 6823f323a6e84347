-- Pivots.
use Rattle.std.specs.Prelude.{ℕ, ◌+◌, ◌-◌, ◌≤◌, ◌<◌, ◌≡◌, ◌≢◌, ◌⊎◌}
use mathlib.Core.List.{List, [], ◌∷◌, Memᴰ}
use Rattle.rules.specs.Words.{Greatest, At}
use Rattle.rules.specs.Day.{Day}
use Rattle.rules.specs.Routes.{Compatible, Earliest, after}

-- a pivot: a stop and a reading
pub record Pivot : Type 0 where
  pub stop : ℕ
  pub reading : ℕ

-- at most 16
abbrev pub most_pivots : ℕ
most_pivots = 16

-- the pivots of a list of numbers, two to a pivot
unfoldable pub pivots_of : List ℕ → List Pivot
pivots_of [] = []
pivots_of (p ∷ []) = []
pivots_of (p ∷ s ∷ xs) = record { stop = p; reading = s } ∷ pivots_of xs

-- u is the pivot's stop, or a route from u that starts at A or later reaches it by its reading
abbrev pub Into : (day : Day) (A u : ℕ) → Pivot → Type 0
Into day A u p = (u ≡ p.stop) ⊎ Compatible day A p.reading u p.stop

-- v is the pivot's stop, or a route from there that starts at its reading or later reaches v by W
abbrev pub Onward : (day : Day) (W v : ℕ) → Pivot → Type 0
Onward day W v p = (v ≡ p.stop) ⊎ Compatible day p.reading W p.stop v

-- the pivot joins u to v: into it from u, then onward to v
pub record Joins (day : Day) (A W u v : ℕ) (p : Pivot) : Type 0 where
  pub differ : u ≢ v
  pub into : Into day A u p
  pub onward : Onward day W v p

-- joined by at least one pivot
pub record Joined (day : Day) (A W : ℕ) (pivots : List Pivot) (u v : ℕ) : Type 0 where
  pub pivot : Pivot
  pub listed : Memᴰ pivot pivots
  pub joins : Joins day A W u v pivot

-- v's bound under one pivot that reaches it by W: the earliest arrival from its stop, starting at its reading or later, less A;
-- the time is counted from the pivot's reading, the bound from A
pub record Under (day : Day) (A W v b : ℕ) (p : Pivot) : Type 0 where
  pub time : ℕ
  pub reaches : Earliest day p.reading W p.stop v (after time)
  pub bound : b ≡ p.reading + time - A

-- v's bound: the greatest over the pivots that reach v
abbrev pub LatestUnder : (day : Day) (A W : ℕ) → List Pivot → (v : ℕ) → ℕ → Type 0
LatestUnder day A W pivots v = Greatest (λ b. (p : Pivot) × Memᴰ p pivots × Under day A W v b p)

-- pivot i has a stop that is not below n, or a reading outside A to W
pub data Astray (n A W : ℕ) (pivots : List Pivot) (i : ℕ) : Type 0 where
  no_stop : {p : Pivot} → At pivots i p → n ≤ p.stop → Astray n A W pivots i
  too_early : {p : Pivot} → At pivots i p → p.reading < A → Astray n A W pivots i
  too_late : {p : Pivot} → At pivots i p → W < p.reading → Astray n A W pivots i
