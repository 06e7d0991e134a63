use Rattle.circ_relay.proofs.Messages.{end_ends}
use Rattle.circ_relay.proofs.places_of_a_log.an_end_message_ends_its_stream.Goals as goal

pub returns : goal.returns
returns c = end_ends
