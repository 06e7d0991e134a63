use Rattle.std.proofs.Common.{arith}
use Rattle.tor_spec.proofs.Payloads.{extend_payload_is_read}
use Rattle.relay_cell.proofs.laws.extends_are_read_back.Goals as goal

pub returns : goal.returns
returns c = λ to htype hdata four port_fits type_fits short.
    extend_payload_is_read to htype hdata four port_fits type_fits (omega arith)
