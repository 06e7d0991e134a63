use Rattle.switch_model.proofs.SameEvents.{comparable_cells}
use Rattle.switch_model.proofs.legs.the_same_events_send_comparable_cells.Goals as goal

pub returns : goal.returns
returns c = comparable_cells
