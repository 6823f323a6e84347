-- The loop: the search with the turns left, from here, ends as the search from the start.
use Prim.Native.Nat.{ℕ, ◌+◌}
use mathlib.Core.Path.{sym, ap, ◌∙◌}
use Rattle.search.specs.declared.state.Search.{Search}
use Rattle.search.proofs.Laws.Visiting.{visit_counts}
use Rattle.search.proofs.Laws.Searched.{going_visit, turns_over, targets_over, stops_there, next_below}
use Rattle.figures.proofs.visits.visit_all.Goals as goal

pub returns-in_default : goal.returns-in_default
returns-in_default g c f by = sym (targets_over (c.loop.invariant.1 f by) c.loop-test.true (sym c.next_target.ensures ∙ c.in_default.is))

pub returns-then-stops_at : goal.returns-then-stops_at
returns-then-stops_at g c f by =
    sym (stops_there (c.loop.invariant.1 f by) c.loop-test.true c.in-Some.place (sym c.next_target.ensures ∙ c.in-Some.is) (sym c.stops_at.ensures ∙ c.if-stops_at.true))

pub far-requires : goal.far-requires
far-requires g c = c.requires.callable c.in-Some.place.stop (next_below c.args.bounds.now c.loop.last c.args.n c.in-Some.place (sym c.next_target.ensures ∙ c.in-Some.is))

pub loop-preserved : goal.loop-preserved
loop-preserved g c =
    let place = c.in-Some.place in
    let next = sym c.next_target.ensures ∙ c.in-Some.is in (
      ap (λ (s : Search). s.visits) c.visit-st.ensures ∙ (visit_counts place.stop c.far.result c.loop.st ∙ ap (λ (k : ℕ). k + 1) c.loop.invariant.0),
      λ f by.
          let far = by place.stop (next_below c.args.bounds.now c.loop.last c.args.n place next) c.far.result c.far.ensures in
          rw (c.visit-st.ensures, far) (going_visit (c.loop.invariant.1 f by) c.loop-test.true place next (sym c.stops_at.ensures ∙ c.if-stops_at.false)),
    )

pub returns : goal.returns
returns g c f by = sym (turns_over (c.loop.invariant.1 f by) c.loop-test.false)
