use Rattle.cell_laws.proofs.Payloads.{reply_law}
use Rattle.cell_laws.proofs.relay.replies_are_read_as_spelled.Goals as goal

pub returns : goal.returns
returns c = reply_law
