use Rattle.cell_laws.proofs.Ports.{port_law}
use Rattle.cell_laws.proofs.relay.ports_are_read_as_spelled.Goals as goal

pub returns : goal.returns
returns c = port_law
