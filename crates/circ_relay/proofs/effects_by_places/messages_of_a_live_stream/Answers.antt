use Rattle.circ_relay.proofs.Doing.{end_does, data_does, overrun_does, sendme_does, too_much_does}
use Rattle.circ_relay.proofs.effects_by_places.messages_of_a_live_stream.Goals as goal

pub returns-clause-end : goal.returns-clause-end
returns-clause-end c = end_does

pub returns-clause-accepted : goal.returns-clause-accepted
returns-clause-accepted c = data_does

pub returns-clause-overrun : goal.returns-clause-overrun
returns-clause-overrun c = overrun_does

pub returns-clause-raised : goal.returns-clause-raised
returns-clause-raised c = sendme_does

pub returns-clause-too_much : goal.returns-clause-too_much
returns-clause-too_much c = too_much_does
