use Rattle.circ_relay.proofs.Reports.{drained_drains}
use Rattle.circ_relay.proofs.places_of_a_log.taken_cells_are_drained.Goals as goal

pub returns : goal.returns
returns c = drained_drains
