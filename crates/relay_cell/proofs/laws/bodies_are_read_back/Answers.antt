use Rattle.std.proofs.Common.{arith}
use Rattle.tor_spec.proofs.Bodies.{relay_body_head, relay_body_fits, relay_body_payload}
use Rattle.relay_cell.proofs.laws.bodies_are_read_back.Goals as goal

pub returns : goal.returns
returns c = record {
  head = λ command stream payload stream_fits short. relay_body_head command stream payload stream_fits (omega arith);
  fits = relay_body_fits;
  payload = relay_body_payload;
}
