use Rattle.circ_relay.proofs.Reports.{connected_joins}
use Rattle.circ_relay.proofs.places_of_a_log.connected_streams_are_joined.Goals as goal

pub returns : goal.returns
returns c = connected_joins
