use Rattle.circ_relay.proofs.Others.{no_message_leaves_places, placeless_leaves_places, ordinary_leaves_places, refused_leaves_places, closing_leaves_places}
use Rattle.circ_relay.proofs.places_of_a_log.other_events_leave_the_places.Goals as goal

pub returns-clause-no_message : goal.returns-clause-no_message
returns-clause-no_message c = no_message_leaves_places

pub returns-clause-no_place : goal.returns-clause-no_place
returns-clause-no_place c = placeless_leaves_places

pub returns-clause-other_command : goal.returns-clause-other_command
returns-clause-other_command c = ordinary_leaves_places

pub returns-clause-refused : goal.returns-clause-refused
returns-clause-refused c = refused_leaves_places

pub returns-clause-closing : goal.returns-clause-closing
returns-clause-closing c = closing_leaves_places
