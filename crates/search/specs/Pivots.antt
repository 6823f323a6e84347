-- Bounds under pivots, and the sources that pivots join to a target, from the numbers of each pivot: `onward` has the arrival at each
-- stop from it, `into` a number that is not 0 for each stop that reaches it in time.
use Rattle.std.specs.Prelude.{ℕ, ◌≤◌, ◌<◌, ◌≡◌, Bool, not, ◌&&◌, cond, List, ◌++◌, eqb, length, get_or, drop, max, map, filter, unwrap_or}
use Rattle.std.specs.List.{list_any, reduce}
use Rattle.rules.specs.Words.{At, things_from}
use Rattle.rules.specs.Pivots.{Pivot}
use Rattle.passes.specs.Forward.{nowhere}
use Rattle.search.specs.declared.pivots.PivotNumbers.{PivotNumbers}

-- the first n numbers of each list are the pivot's own
pub record Numbered (n : ℕ) (out back : List ℕ) (x : PivotNumbers) : Type 0 where
  pub onward : (v : ℕ) → v < n → get_or x.onward v 0 ≡ get_or out v 0
  pub into : (u : ℕ) → u < n → get_or x.into u 0 ≡ get_or back u 0

-- the list has for each pivot the numbers that are its own
pub record LaidOut (n : ℕ) (pivots : List Pivot) (onward into : Pivot → List ℕ) (list : List PivotNumbers) : Type 0 where
  pub count : length list ≡ length pivots
  pub each : (i : ℕ) (p : Pivot) (x : PivotNumbers) → At pivots i p → At list i x → Numbered n (onward p) (into p) x

-- a pivot's own numbers put first, and the places past them kept
abbrev pub numbers_over : (n : ℕ) (onward into : List ℕ) → PivotNumbers → PivotNumbers
numbers_over n onward into x = record { onward = onward ++ drop n x.onward; into = into ++ drop n x.into }

-- the numbers of all pivots were laid out at the front of a list, and the rest of it is kept
pub record PivotsLaid (n : ℕ) (pivots : List Pivot) (onward into : Pivot → List ℕ) (old new : List PivotNumbers) : Type 0 where
  pub same_length : length new ≡ length old
  pub laid : (i : ℕ) (p : Pivot) (x : PivotNumbers) → At pivots i p → At old i x → At new i (numbers_over n (onward p) (into p) x)
  pub kept : (i : ℕ) (x : PivotNumbers) → length pivots ≤ i → At old i x → At new i x

-- the greatest bound of v over the pivots that reach it, or nowhere
unfoldable pub bound_under : List PivotNumbers → (v : ℕ) → ℕ
bound_under pivots v = unwrap_or (reduce max (filter (λ x. not (eqb x nowhere)) (map (λ p. get_or p.onward v 0) pivots))) nowhere

abbrev pub bounds_under : List PivotNumbers → (n : ℕ) → List ℕ
bounds_under pivots n = things_from (bound_under pivots) n 0

-- whether a pivot joins, by its number for the target and the source's number for it
abbrev pub joinsb : (onward into : ℕ) → Bool
joinsb onward into = not (eqb onward nowhere) && not (eqb into 0)

-- whether some pivot joins u to v
unfoldable pub joinedb : List PivotNumbers → (v u : ℕ) → Bool
joinedb pivots v u = list_any (λ x. joinsb (get_or x.onward v 0) (get_or x.into u 0)) pivots

-- the distance from u to v where the pair is joined, else nowhere
abbrev pub kept_at : List PivotNumbers → (v : ℕ) (ds : List ℕ) (u : ℕ) → ℕ
kept_at pivots v ds u = cond (joinedb pivots v u) (get_or ds u 0) nowhere

abbrev pub kept_joined : List PivotNumbers → (n v : ℕ) (ds : List ℕ) → List ℕ
kept_joined pivots n v ds = things_from (kept_at pivots v ds) n 0
