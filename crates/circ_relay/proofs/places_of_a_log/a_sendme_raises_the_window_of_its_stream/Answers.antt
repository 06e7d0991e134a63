use Rattle.circ_relay.proofs.StreamSendmes.{sendme_credits}
use Rattle.circ_relay.proofs.places_of_a_log.a_sendme_raises_the_window_of_its_stream.Goals as goal

pub returns : goal.returns
returns c = sendme_credits
