-- The rooms are made of zeros.
use Rattle.rules.specs.Lent.{scratch_places}
use Rattle.taking.specs.Laws.Exists.{zero_places}
use Rattle.taking.proofs.state.Desk.new.Goals as goal

pub invariant_of-result-clause-zeros : goal.invariant_of-result-clause-zeros
invariant_of-result-clause-zeros c = zero_places scratch_places
