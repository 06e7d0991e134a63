use Rattle.cell_laws.proofs.Netinfos.{silent_is_netinfo}
use Rattle.cell_laws.proofs.opening.own_netinfo_is_read_back.Goals as goal

pub returns : goal.returns
returns c = silent_is_netinfo
