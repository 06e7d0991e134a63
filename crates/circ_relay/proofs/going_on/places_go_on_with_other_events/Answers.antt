use Rattle.circ_relay.proofs.StepByStep.{no_message_goes_on, placeless_goes_on, ordinary_goes_on, refused_goes_on, closing_goes_on}
use Rattle.circ_relay.proofs.going_on.places_go_on_with_other_events.Goals as goal

pub returns-clause-no_message : goal.returns-clause-no_message
returns-clause-no_message c = no_message_goes_on

pub returns-clause-no_place : goal.returns-clause-no_place
returns-clause-no_place c = placeless_goes_on

pub returns-clause-other_command : goal.returns-clause-other_command
returns-clause-other_command c = ordinary_goes_on

pub returns-clause-refused : goal.returns-clause-refused
returns-clause-refused c = refused_goes_on

pub returns-clause-closing : goal.returns-clause-closing
returns-clause-closing c = closing_goes_on
