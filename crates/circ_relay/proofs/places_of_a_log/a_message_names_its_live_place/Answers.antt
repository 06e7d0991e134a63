use Rattle.circ_relay.proofs.Named.{zero_is_not_live}
use Rattle.circ_relay.proofs.Naming.{message_place}
use Rattle.circ_relay.proofs.places_of_a_log.a_message_names_its_live_place.Goals as goal

pub returns-clause-place : goal.returns-clause-place
returns-clause-place c = message_place

pub returns-clause-zero : goal.returns-clause-zero
returns-clause-zero c = zero_is_not_live
