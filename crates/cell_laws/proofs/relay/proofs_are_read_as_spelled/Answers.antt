use Rattle.cell_laws.proofs.Payloads.{proof_law}
use Rattle.cell_laws.proofs.relay.proofs_are_read_as_spelled.Goals as goal

pub returns : goal.returns
returns c = proof_law
