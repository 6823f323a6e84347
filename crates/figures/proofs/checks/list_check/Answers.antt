-- Each return: the checks before it are not given, and this one is.
use Prim.Native.Nat.{ℕ, ◌<◌}
use mathlib.Core.Path.{◌≡◌, refl, ap, ◌∙◌}
use mathlib.Core.Logic.{◌⊎◌, inl, inr}
use lib.Dec.{eqb}
use native.Mathlib.Omega.{arith}
use Rattle.rules.specs.Day.{most_stops}
use Rattle.rules.proofs.Laws.Rows.{length_rows}
use Rattle.day.proofs.Sounding.{not_both}
use Rattle.figures.proofs.Judging.{passes}
use Rattle.figures.proofs.checks.list_check.Goals.{then-n-eq0, else-n-eq0}
use Rattle.figures.proofs.checks.list_check.Goals as goal

pub returns-then-many : goal.returns-then-many
returns-then-many c = inr (passes (λ h. h c.if-list-ne0.false), inl (refl, (refl, omega (arith, length_rows c.args.list.now))))

pub returns-then-no_number : goal.returns-then-no_number
returns-then-no_number c =
    let no_number : (c.args.n ≡ 0) ⊎ (most_stops < c.args.n) = elim c.if-n-eq0.branch [ then-n-eq0 w ↦ inl w.if-n-eq0.true | else-n-eq0 w ↦ inr (omega arith) ] in
    inr (passes (λ h. h c.if-list-ne0.false), inr (passes (λ h. omega (arith, length_rows c.args.list.now)), inl (refl, (refl, no_number))))

pub returns : goal.returns
returns c = (
  passes (λ h. h c.if-list-ne0.false),
  (
    passes (λ h. omega (arith, length_rows c.args.list.now)),
    (
      passes (λ h. elim c.if-n-eq0.branch [ then-n-eq0 w ↦ not_both (w.no_number-is ∙ ap (λ (k : ℕ). eqb k 0) w.if-n-eq0.true) c.if-no_number.false | else-n-eq0 w ↦ elim h [ inl e ↦ w.if-n-eq0.false e | inr l ↦ omega arith ] ]),
      tt,
    ),
  ),
)
