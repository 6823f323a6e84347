-- Number 8, then number 9.
use mathlib.Core.Path.{refl}
use mathlib.Core.Logic.{◌⊎◌, ◌≢◌, inl, inr}
use Prim.Native.Nat.{◌%◌, ◌<◌}
use native.Mathlib.Omega.{arith}
use lib.ListN.{length}
use mathlib.Core.List.{[], ◌∷◌}
use Rattle.rules.specs.Pivots.{most_pivots, pivots_of}
use Rattle.rules.specs.Table.{check_8, check_9}
use Rattle.figures.proofs.Judging.{passes, judges_next}
use Rattle.figures.proofs.Pivoting.{length_pivots}
use Rattle.figures.proofs.own.Own.check_pivots.Goals.{then-pivots-ne0-via-then-pivots-ne0, then-pivots-ne0-via-else-pivots-ne0+then-pivots-gt-MOST_PIVOTS}
use Rattle.figures.proofs.own.Own.check_pivots.Goals as goal

pub returns-then-pivots-ne0 : goal.returns-then-pivots-ne0
returns-then-pivots-ne0 c =
    let pivots = c.args.pivots.now in
    let bad : (length pivots % 2 ≢ 0) ⊎ (most_pivots < length (pivots_of pivots)) =
    elim c.then-pivots-ne0.branch [
      | then-pivots-ne0-via-then-pivots-ne0 w ↦ inl w.if-pivots-ne0.true
      | then-pivots-ne0-via-else-pivots-ne0+then-pivots-gt-MOST_PIVOTS w ↦ inr (omega (arith, length_pivots pivots))
    ]
    in
    inl (refl, (refl, bad))

pub returns : goal.returns
returns c =
    let o = c.args.self in
    let pivots = c.args.pivots.now in
    judges_next (check_8 pivots) (check_9 o.n o.a.0 o.w.0 (pivots_of pivots) ∷ []) c.first_astray.result
    (passes (λ h. elim h [ inl e ↦ e c.if-pivots-ne0.false | inr l ↦ omega (arith, length_pivots pivots) ])) c.first_astray.ensures
