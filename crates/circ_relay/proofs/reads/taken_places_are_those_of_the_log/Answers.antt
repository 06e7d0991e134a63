use Rattle.circ_relay.proofs.Taken.{taken_by_the_log, full_by_the_log}
use Rattle.circ_relay.proofs.reads.taken_places_are_those_of_the_log.Goals as goal

pub returns-clause-count : goal.returns-clause-count
returns-clause-count c = taken_by_the_log

pub returns-clause-full : goal.returns-clause-full
returns-clause-full c = full_by_the_log
