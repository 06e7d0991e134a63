use Rattle.circ_relay.proofs.Reports.{freed_frees}
use Rattle.circ_relay.proofs.places_of_a_log.freed_places_hold_nothing.Goals as goal

pub returns : goal.returns
returns c = freed_frees
