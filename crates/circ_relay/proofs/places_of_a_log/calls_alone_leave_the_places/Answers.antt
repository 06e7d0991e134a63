use Rattle.circ_relay.proofs.Changing.{calls_say_nothing}
use Rattle.circ_relay.proofs.places_of_a_log.calls_alone_leave_the_places.Goals as goal

pub returns : goal.returns
returns c = calls_say_nothing
