-- The part that is overwritten holds zeros.
use Prim.Native.Nat.{ℕ}
use mathlib.Core.Path.{◌≡◌, ap, ◌∙◌}
use lib.ListN.{replicate, length-replicate, get_or-replicate}
use lib.Seq.{length-take-le}
use Rattle.rules.specs.Lent.{scratch_places}
use Rattle.rules.proofs.Laws.Filled.{fills_front}
use Rattle.figures.proofs.checks.wipe.Goals as goal

pub returns : goal.returns
returns c =
    let old = c.args.scratch.now in
    let e : c.fill.new.self ≡ replicate scratch_places 0 = c.fill.ensures.after (λ y e. e) ∙ ap (λ (k : ℕ). replicate k 0) (length-take-le scratch_places old c.requires) in
    rw e
    (fills_front scratch_places (λ place number. number ≡ 0) (replicate scratch_places 0) old (length-replicate {A = ℕ} scratch_places 0) c.requires (λ i l. get_or-replicate {A = ℕ} scratch_places i 0 0 l))
