-- The loop: the search from leg j ends where the search from leg k does.
use Prim.Native.Nat.{ℕ, ◌-◌, ◌%◌, ◌≤◌, ◌<◌}
use native.Mathlib.Omega.{arith}
use native.Mathlib.Decide.{dec_le}
use mathlib.Core.Path.{◌≡◌, sym, ◌∙◌}
use mathlib.Core.List.{List}
use lib.ListN.{length, get_or}
use Rattle.rules.specs.Day.{most_rows}
use Rattle.std.proofs.lemmas.Grind.{common_steps}
use Rattle.passes.specs.declared.legs.Leg.{Leg}
use Rattle.passes.specs.Links.{link_places, leg_no, first_past, Jump, Chained}
use Rattle.passes.proofs.Laws.Links.{onward_here, farther_jump, farther_onward}
use Rattle.passes.proofs.links.first_from.Goals as goal

-- a jump leads closer to the end of the legs, and none is past it
jump-falls : (list : List Leg) (k q : ℕ) → 1 ≤ k → k ≤ most_rows → length list ≤ most_rows → Jump list k q → (link_places - q) % link_places < (link_places - k) % link_places
jump-falls list k q one few most jump = go (dec_le 1 q)
  where
    go : Dec (1 ≤ q) → (link_places - q) % link_places < (link_places - k) % link_places
    go (yes d) = omega (arith, jump.later d, jump.most)
    go (no d) = omega arith

-- leg j lies on the chain from leg k
module _ {list : List Leg} {next jump : List ℕ} {k j : ℕ} (chained : Chained list (k - 1) next jump) (past : (1 ≤ k) × (k ≤ j)) (within : j ≤ length list) where
  next_on : get_or next j 0 ≡ first_past list j (leg_no list j).from 0
  next_on = chained.nexts j (omega arith) within

  jump_on : Jump list j (get_or jump j 0)
  jump_on = chained.jumps j (omega arith) within

pub returns-then-in_time : goal.returns-then-in_time
returns-then-in_time c =
    let args = c.args in
    let loop = c.loop-j in
    let leg = c.leg_no in
    let in_time : args.t.0 ≤ leg.result.start.0 = grind (arith, common_steps) in
    sym (onward_here args.legs.now loop.j args.t.0 c.loop-j-test.true loop.invariant.0 (rw leg.ensures.is at in_time)) ∙ loop.invariant.1.1

pub loop-j-smaller : goal.loop-j-smaller
loop-j-smaller c =
    let args = c.args in
    let fit = c.requires.orderly in
    let loop = c.loop-j in
    let on = c.loop-j-test.true in
    let within = loop.invariant.0 in
    let past = loop.invariant.1.0 on in
    let chained = c.requires.chained past.0 in
    let jump = farther_jump args.legs.now fit loop.j args.t.0 _ _ on within (next_on chained past within) (jump_on chained past within) c.farther-j.ensures in
    jump-falls args.legs.now loop.j _ on (omega (arith, fit.few)) fit.few jump

pub loop-j-preserved : goal.loop-j-preserved
loop-j-preserved c =
    let args = c.args in
    let fit = c.requires.orderly in
    let loop = c.loop-j in
    let on = c.loop-j-test.true in
    let within = loop.invariant.0 in
    let past = loop.invariant.1.0 on in
    let chained = c.requires.chained past.0 in
    let next = next_on chained past within in
    let leg = c.leg_no in
    let late : leg.result.start.0 < args.t.0 = grind (arith, common_steps) in
    let jump = farther_jump args.legs.now fit loop.j args.t.0 _ _ on within next (jump_on chained past within) c.farther-j.ensures in (
      jump.most,
      (
        λ one. (past.0, omega (arith, jump.later one, past.1)),
        farther_onward args.legs.now fit loop.j args.t.0 _ _ on within next (jump_on chained past within) (rw leg.ensures.is at late) c.farther-j.ensures ∙ loop.invariant.1.1,
      ),
    )
