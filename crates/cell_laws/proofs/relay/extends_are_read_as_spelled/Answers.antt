use Rattle.cell_laws.proofs.Extends.{extend_law}
use Rattle.cell_laws.proofs.relay.extends_are_read_as_spelled.Goals as goal

pub returns : goal.returns
returns c = extend_law
