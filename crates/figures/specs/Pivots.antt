-- What the contracts on pivots cite: a pivot takes two numbers, whether it is astray, and a pivot's numbers put among others.
use Rattle.std.specs.Prelude.{ℕ, ◌+◌, ◌*◌, Bool, ◌||◌, leb, ltb, get_or}
use mathlib.Core.List.{List, Memᴰ}
use Rattle.rules.specs.Pivots.{Pivot, pivots_of}
use Rattle.rules.specs.Faultless.{Sits}
use Rattle.figures.specs.declared.pivots.Pivot as declared

abbrev pub pivot_width : ℕ
pivot_width = 2

-- a pivot of the code as a pivot of the rules
abbrev pub pivot_of : declared.Pivot → Pivot
pivot_of p = record { stop = p.stop; reading = p.reading.0 }

-- pivot i of a list of numbers
abbrev pub pivot_at : List ℕ → ℕ → Pivot
pivot_at list i = record { stop = get_or list (i * pivot_width) 0; reading = get_or list (i * pivot_width + 1) 0 }

-- a stop that is not below n, or a reading outside A to W
abbrev pub astrayb : (n A W : ℕ) → Pivot → Bool
astrayb n A W p = leb n p.stop || (ltb p.reading A || ltb W p.reading)

-- each pivot's stop is below n, and its reading lies in A to W
abbrev pub AllSit : (n A W : ℕ) (pivots : List ℕ) → Type 0
AllSit n A W pivots = (p : Pivot) → Memᴰ p (pivots_of pivots) → Sits n A W p
