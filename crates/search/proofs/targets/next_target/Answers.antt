-- The loop: one stop more.
use Rattle.std.proofs.Common.{rules, ◌≡◌, ◌∙◌, sym, ℕ, arith, true, ltb, get_or, take, MatchOption}
use Rattle.std.proofs.lemmas.List.{get_or-take, length-take}
use Rattle.search.specs.Targets.{next_in}
use Rattle.search.proofs.Laws.Chosen.{skipped, taken, kept}
use Rattle.search.proofs.targets.next_target.Goals as goal
use Rattle.search.proofs.targets.next_target.Goals.{then-is_none_or+then-comes_after, else-is_none_or, else-is_none_or-via-then-is_none_or+else-comes_after, else-is_none_or-via-else-is_none_or}

pub loop-stop-init : goal.loop-stop-init
unfolding next_in
loop-stop-init c = search rules

pub loop-stop-preserved : goal.loop-stop-preserved
loop-stop-preserved c =
    let same : get_or (take c.args.n c.args.bounds.now) c.loop-stop.stop 0 ≡ get_or c.args.bounds.now c.loop-stop.stop 0 =
    get_or-take c.args.n c.args.bounds.now c.loop-stop.stop 0 (omega (arith, length-take {A = ℕ})) in
    let above : MatchOption c.loop-stop.next (c.is_none_or.result ≡ true) (λ q. c.is_none_or.result ≡ ltb q.bound.0 (get_or c.args.bounds.now c.loop-stop.stop 0)) =
    rw (← same) (search rules) in
    elim c.if-is_none_or.branch [
      | then-is_none_or+then-comes_after w ↦ (rw same at w.next-is) ∙ taken _ _ _ _ c.loop-stop.invariant _ above w.if-is_none_or.true (sym (rw same at w.comes_after.ensures) ∙ w.if-comes_after.true)
      | else-is_none_or w ↦ w.next-is ∙ elim w.else-is_none_or.branch [
        | else-is_none_or-via-then-is_none_or+else-comes_after w' ↦ skipped _ _ _ _ c.loop-stop.invariant (sym (rw same at w'.comes_after.ensures) ∙ w'.if-comes_after.false)
        | else-is_none_or-via-else-is_none_or w' ↦ kept _ _ _ _ c.loop-stop.invariant _ above w'.if-is_none_or.false
      ]
    ]
