use Rattle.circ_relay.proofs.LivePlaces.{live_held, live_serial_of, none_live_of}
use Rattle.circ_relay.proofs.circuit.Circuit.live_place.Goals as goal

pub returns-clause-live : goal.returns-clause-live
returns-clause-live c = live_held c.args.self.now.places c.args.stream c.live.result c.live.ensures

pub returns-clause-serial : goal.returns-clause-serial
returns-clause-serial c = live_serial_of c.args.self.now.places c.args.stream c.live.result c.live.ensures

pub returns-clause-none : goal.returns-clause-none
returns-clause-none c = none_live_of c.args.self.now.places c.args.stream c.live.result c.live.ensures
