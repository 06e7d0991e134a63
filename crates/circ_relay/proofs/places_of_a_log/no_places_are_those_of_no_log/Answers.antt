use Rattle.circ_relay.proofs.Beginning.{nothing_is_held}
use Rattle.circ_relay.proofs.places_of_a_log.no_places_are_those_of_no_log.Goals as goal

pub returns : goal.returns
returns c = nothing_is_held
