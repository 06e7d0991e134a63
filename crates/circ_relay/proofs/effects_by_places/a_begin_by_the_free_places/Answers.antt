use Rattle.circ_relay.proofs.Doing.{full_does, begin_does, unallowed_does}
use Rattle.circ_relay.proofs.effects_by_places.a_begin_by_the_free_places.Goals as goal

pub returns-clause-full : goal.returns-clause-full
returns-clause-full c = full_does

pub returns-clause-reach : goal.returns-clause-reach
returns-clause-reach c = begin_does

pub returns-clause-unallowed : goal.returns-clause-unallowed
returns-clause-unallowed c = unallowed_does
