use Rattle.std.proofs.Common.{arith}
use Rattle.relay_cell.specs.Extend.{extend_of}
use Rattle.circuit_model.proofs.Handshakes.{extend_handshake_short}
use Rattle.plain_circuit.proofs.extending.request_in.Goals as goal

pub returns-clause-short : goal.returns-clause-short
returns-clause-short c =
    omega (
      arith,
      extend_handshake_short c.as_slice.result.now (extend_of c.in_ok-request.request) c.in_ok-request.ensures.some,
      c.as_slice.ensures.short,
    )
