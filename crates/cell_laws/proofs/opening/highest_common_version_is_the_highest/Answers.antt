use Rattle.cell_laws.proofs.VersionLists.{highest_law}
use Rattle.cell_laws.proofs.opening.highest_common_version_is_the_highest.Goals as goal

pub returns : goal.returns
returns c = highest_law
