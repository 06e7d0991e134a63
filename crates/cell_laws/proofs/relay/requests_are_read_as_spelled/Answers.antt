use Rattle.cell_laws.proofs.Payloads.{request_law}
use Rattle.cell_laws.proofs.relay.requests_are_read_as_spelled.Goals as goal

pub returns : goal.returns
returns c = request_law
