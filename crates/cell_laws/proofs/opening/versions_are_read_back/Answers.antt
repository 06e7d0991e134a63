use Rattle.cell_laws.proofs.VersionLists.{versions_again}
use Rattle.cell_laws.proofs.opening.versions_are_read_back.Goals as goal

pub returns : goal.returns
returns c = versions_again
