use Rattle.cell_laws.proofs.Payloads.{end_law, truncated_law}
use Rattle.cell_laws.proofs.relay.reasons_are_read_as_spelled.Goals as goal

pub returns : goal.returns
returns c = record { ends = end_law; truncated = truncated_law }
