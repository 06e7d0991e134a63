use Rattle.tor_spec.proofs.Begins.{spelled_target_is_read}
use Rattle.tor_spec.proofs.ReadTargets.{read_target_is_spelled}
use Rattle.relay_cell.proofs.laws.targets_are_read_as_spelled.Goals as goal

pub returns : goal.returns
returns c = λ payload host port. (
  spelled_target_is_read payload host port,
  read_target_is_spelled payload (record { host = host; port = port }),
)
