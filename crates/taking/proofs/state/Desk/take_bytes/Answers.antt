-- The run ends at a byte.
use Rattle.taking.specs.Laws.Bytes.{bytes_stop}
use Rattle.taking.proofs.state.Desk.take_bytes.Goals as goal

pub returns-in_err-take_byte : goal.returns-in_err-take_byte
returns-in_err-take_byte c =
    let d = c.args.self.now in
    rw c.from_residual.ensures (bytes_stop c.args.bytes.now c.loop-b.b-index c.loop-b-test.true d.day.made d c.loop-b.self c.take_byte.new.self _ c.loop-b.invariant c.in_err-take_byte.ensures)
