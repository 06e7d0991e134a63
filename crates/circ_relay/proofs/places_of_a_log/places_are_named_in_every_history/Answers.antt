use Rattle.circ_relay.proofs.Named.{history_is_named, start_is_named, named_more}
use Rattle.circ_relay.proofs.places_of_a_log.places_are_named_in_every_history.Goals as goal

pub returns-clause-history : goal.returns-clause-history
returns-clause-history c = history_is_named

pub returns-clause-start : goal.returns-clause-start
returns-clause-start c = start_is_named

pub returns-clause-more : goal.returns-clause-more
returns-clause-more c = named_more
