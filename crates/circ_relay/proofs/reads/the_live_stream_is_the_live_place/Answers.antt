use Rattle.circ_relay.proofs.Reading.{live_serial, live_found, none_live, live_stream_is_live_place}
use Rattle.circ_relay.proofs.reads.the_live_stream_is_the_live_place.Goals as goal

pub returns-clause-serial : goal.returns-clause-serial
returns-clause-serial c = live_serial

pub returns-clause-found : goal.returns-clause-found
returns-clause-found c = live_found

pub returns-clause-absent : goal.returns-clause-absent
returns-clause-absent c = none_live

pub returns-clause-live : goal.returns-clause-live
returns-clause-live c = live_stream_is_live_place
