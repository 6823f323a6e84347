-- Which numbers a call gives, and what comes of no pivot.
use Rattle.std.specs.Prelude.{ℕ, [], Result, Ok, Err}
use Rattle.std.proofs.Common.{subst}
use mathlib.Core.List.Memᴰ
use Rattle.std.proofs.Math.Option.{Option}
use Rattle.rules.specs.Day.{Ask}
use Rattle.rules.specs.Diameter.{NoneShown, sorted_none, at_end}
use Rattle.rules.specs.Pivots.{pivots_of}
use Rattle.rules.specs.Table.{Takes, table, Refuses}
use Rattle.rules.specs.Figures.{JoinedPairs, PivotBounds}
use Rattle.rules.proofs.Laws.Joined.{never_12}
use Rattle.day.specs.Refusals.{number_of}
use Rattle.day.specs.declared.refusal.Refusal.{Refusal}
use Rattle.figures.specs.declared.answers.Answer.TheVariants as answer
use Rattle.figures.specs.Promises.{Filled, Eccentricity, IsRefusal, seconds, Fulfils, FulfilsFilling, FulfilsEccentricity, FulfilsSearch}

-- no call that goes by the table gives 12: a joined pair always has a route
module _ (q : Ask) (t : Takes) (X Y : Type 0) (place : ℕ) where
  pub fulfils_never_12 : {T : Type 0} (A : T → Type 0) (r : Result T Refusal) → Fulfils (table q t) A Y r → IsRefusal r 12 place → ⊥
  fulfils_never_12 A (Ok x) h e = e
  fulfils_never_12 A (Err r) h e =
      never_12 q t place (subst (λ (i : ℕ). Refuses (table q t) i place) e.0 (subst (Refuses (table q t) (number_of r)) e.1 h.0))

  pub filled_never_12 : (r : Filled) → FulfilsFilling (table q t) X Y r → IsRefusal r 12 place → ⊥
  filled_never_12 = fulfils_never_12 (λ x. X)

  pub eccentricity_never_12 : (Is : Option ℕ → Type 0) (r : Eccentricity) → FulfilsEccentricity (table q t) Is X Y r → IsRefusal r 12 place → ⊥
  eccentricity_never_12 Is = fulfils_never_12 (λ d. Is (seconds d) × X)

  pub search_never_12 : (Pair : ℕ → ℕ → ℕ → Type 0) (Bound : ℕ → ℕ → Type 0) → FulfilsSearch (table q t) Pair Bound X Y (answer.Refused 12 place) → ⊥
  search_never_12 Pair Bound h = never_12 q t place h.0

-- with no pivot the answer is none with 0 visits
pub no_pivot : (q : Ask) → NoneShown (JoinedPairs q []) (PivotBounds q []) 0
unfolding pivots_of
no_pivot q =
    record {
      nobody = λ u v d p. Memᴰ.not-nil p.1.listed;
      order = [];
      targets = record { sorted = sorted_none; bounded = λ v. (λ m. absurd (Memᴰ.not-nil m), λ b. absurd (Memᴰ.not-nil b.1.holds.1)) };
      taken = at_end;
    }
