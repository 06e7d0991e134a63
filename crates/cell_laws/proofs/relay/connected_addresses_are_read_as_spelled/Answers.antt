use Rattle.cell_laws.proofs.Payloads.{connected_law}
use Rattle.cell_laws.proofs.relay.connected_addresses_are_read_as_spelled.Goals as goal

pub returns : goal.returns
returns c = connected_law
