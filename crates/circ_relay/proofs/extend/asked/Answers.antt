use Rattle.std.proofs.Common.{arith, ap, option_map}
use Rattle.relay_cell.specs.Extend.{address_of as pair_of, extend_of}
use Rattle.circuit_model.proofs.Handshakes.{extend_handshake_short}
use Rattle.circ_relay.proofs.HopMessages.{asked_create2}
use Rattle.circ_relay.proofs.extend.asked.Goals as goal

pub create2_payload-create2-requires : goal.create2_payload-create2-requires
create2_payload-create2-requires c =
    omega (
      arith,
      extend_handshake_short c.args.payload.now (extend_of c.in_ok-request.request) c.in_ok-request.ensures.some,
      c.requires,
    )

pub returns-clause-some : goal.returns-clause-some
returns-clause-some c = (
  extend_of c.in_ok-request.request,
  c.in_ok-request.ensures.some,
  ap (λ to. option_map pair_of to) c.in_ok-ip.was,
  asked_create2 (extend_of c.in_ok-request.request) c.create2_payload-create2.result c.create2_payload-create2.ensures,
)
