use Rattle.circ_relay.proofs.Messages.{data_accepts}
use Rattle.circ_relay.proofs.places_of_a_log.a_data_message_is_accepted_by_its_window.Goals as goal

pub returns : goal.returns
returns c = data_accepts
