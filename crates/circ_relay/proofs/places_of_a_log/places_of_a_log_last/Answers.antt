use Rattle.circ_relay.proofs.Doing.{place_lasts, place_begins}
use Rattle.circ_relay.proofs.places_of_a_log.places_of_a_log_last.Goals as goal

pub returns-clause-last : goal.returns-clause-last
returns-clause-last c = place_lasts

pub returns-clause-begin : goal.returns-clause-begin
returns-clause-begin c = place_begins
