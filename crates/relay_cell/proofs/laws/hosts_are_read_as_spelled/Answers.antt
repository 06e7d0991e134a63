use Rattle.tor_spec.proofs.Hosts.{spelled_host_is_read, read_host_is_spelled}
use Rattle.relay_cell.proofs.laws.hosts_are_read_as_spelled.Goals as goal

pub returns : goal.returns
returns c = λ payload host. (spelled_host_is_read payload host, read_host_is_spelled payload host)
