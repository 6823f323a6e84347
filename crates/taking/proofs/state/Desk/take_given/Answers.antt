-- The bytes are taken from the desk with nothing made.
use Rattle.std.proofs.Common.{arith, rules, length, ◌≡◌}
use Rattle.std.proofs.lemmas.Bool.Decides.{nat_tests}
use Rattle.taking.specs.Laws.Reads.{given_ended, given_piece}
use Rattle.taking.proofs.state.Desk.take_given.Goals as goal

pub returns-then-is_empty : goal.returns-then-is_empty
returns-then-is_empty c =
    let none : length c.args.bytes.now ≡ 0 = grind (arith, nat_tests) in
    search (rules, given_ended)

pub returns : goal.returns
returns c = search (rules, given_piece)
