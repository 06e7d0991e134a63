use Rattle.circ_relay.proofs.StepByStep.{begin_goes_on, end_goes_on, data_goes_on, sendme_goes_on}
use Rattle.circ_relay.proofs.going_on.places_go_on_with_messages.Goals as goal

pub returns-clause-begin : goal.returns-clause-begin
returns-clause-begin c = begin_goes_on

pub returns-clause-end : goal.returns-clause-end
returns-clause-end c = end_goes_on

pub returns-clause-accepted : goal.returns-clause-accepted
returns-clause-accepted c = data_goes_on

pub returns-clause-credited : goal.returns-clause-credited
returns-clause-credited c = sendme_goes_on
