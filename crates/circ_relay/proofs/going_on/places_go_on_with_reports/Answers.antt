use Rattle.circ_relay.proofs.StepByStep.{connected_goes_on, bytes_go_on, drained_goes_on, ended_goes_on, freed_goes_on}
use Rattle.circ_relay.proofs.going_on.places_go_on_with_reports.Goals as goal

pub returns-clause-connected : goal.returns-clause-connected
returns-clause-connected c = connected_goes_on

pub returns-clause-bytes : goal.returns-clause-bytes
returns-clause-bytes c = bytes_go_on

pub returns-clause-drained : goal.returns-clause-drained
returns-clause-drained c = drained_goes_on

pub returns-clause-ended : goal.returns-clause-ended
returns-clause-ended c = ended_goes_on

pub returns-clause-freed : goal.returns-clause-freed
returns-clause-freed c = freed_goes_on
