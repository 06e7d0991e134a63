use Rattle.circ_relay.proofs.Begun.{begin_takes_a_place}
use Rattle.circ_relay.proofs.places_of_a_log.an_accepted_begin_takes_a_place.Goals as goal

pub returns : goal.returns
returns c = begin_takes_a_place
