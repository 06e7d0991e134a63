use Rattle.switch_model.proofs.Examples.{crossing_destroys-legal}
use Rattle.switch_model.proofs.histories.crossing_destroy_frees_the_id.Goals as goal

pub returns : goal.returns
returns c = crossing_destroys-legal
