-- A row that is kept as a leg, or left out.
use Rattle.std.specs.Prelude.{ℕ, ◌+◌, ◌≡◌, List, set, Some, None}
use Rattle.std.proofs.Common.{arith}
use Rattle.std.proofs.lemmas.Grind.{common_steps}
use Rattle.rules.specs.Day.{Row}
use Rattle.rules.specs.Lent.{Kept}
use Rattle.passes.specs.Legs.{leg_of, fitsb, alone, made_leg}
use Rattle.passes.specs.declared.legs.Leg as declared

module _ (A W : ℕ) (r : Row) (k : ℕ) (old : List declared.Leg) where
  pub leg_kept : (leg : declared.Leg) → made_leg A W r ≡ Some leg → Kept 1 alone (fitsb A W r) (leg_of A r) k old (k + 1) (set old k leg)
  leg_kept leg h = grind (arith, common_steps)

  pub leg_left : made_leg A W r ≡ None → Kept 1 alone (fitsb A W r) (leg_of A r) k old k old
  leg_left h = grind (arith, common_steps)
