use Rattle.cell_laws.proofs.Netinfos.{netinfo_law}
use Rattle.cell_laws.proofs.opening.netinfos_are_read_as_spelled.Goals as goal

pub returns : goal.returns
returns c = netinfo_law
