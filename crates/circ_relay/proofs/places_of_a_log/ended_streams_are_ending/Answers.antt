use Rattle.circ_relay.proofs.Closes.{ended_ends}
use Rattle.circ_relay.proofs.places_of_a_log.ended_streams_are_ending.Goals as goal

pub returns : goal.returns
returns c = ended_ends
