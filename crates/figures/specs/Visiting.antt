-- What a search asks of the function that tells the farthest source of a target.
use Rattle.std.specs.Prelude.{ℕ, ◌<◌, ◌≡◌}
use Rattle.search.specs.declared.far.Far.{Far}

-- the calls at stops below n answer what f says
abbrev pub Follows : (n : ℕ) → (far : (v : ℕ) → Far → Type 0) → (f : ℕ → Far) → Type 0
Follows n far f = (v : ℕ) → v < n → (x : Far) → far v x → x ≡ f v
