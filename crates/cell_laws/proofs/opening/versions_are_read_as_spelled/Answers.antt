use Rattle.cell_laws.proofs.VersionLists.{versions_law}
use Rattle.cell_laws.proofs.opening.versions_are_read_as_spelled.Goals as goal

pub returns : goal.returns
returns c = versions_law
