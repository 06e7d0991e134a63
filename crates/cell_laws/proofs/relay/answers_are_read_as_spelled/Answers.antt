use Rattle.cell_laws.proofs.Resolves.{resolved_law}
use Rattle.cell_laws.proofs.relay.answers_are_read_as_spelled.Goals as goal

pub returns : goal.returns
returns c = resolved_law
