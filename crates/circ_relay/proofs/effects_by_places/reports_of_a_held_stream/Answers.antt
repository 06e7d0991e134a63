use Rattle.circ_relay.proofs.Doing.{connected_does, bytes_do, ended_does, drained_does}
use Rattle.circ_relay.proofs.effects_by_places.reports_of_a_held_stream.Goals as goal

pub returns-clause-connected : goal.returns-clause-connected
returns-clause-connected c = connected_does

pub returns-clause-bytes : goal.returns-clause-bytes
returns-clause-bytes c = bytes_do

pub returns-clause-ended : goal.returns-clause-ended
returns-clause-ended c = ended_does

pub returns-clause-drained : goal.returns-clause-drained
returns-clause-drained c = drained_does
