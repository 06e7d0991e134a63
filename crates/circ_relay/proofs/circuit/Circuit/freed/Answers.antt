use Rattle.std.proofs.Common.{ap}
use Rattle.stream_edge.specs.PlacesState.{PlacesState}
use Rattle.circ_relay.proofs.Edges.{at_found}
use Rattle.circ_relay.proofs.EdgeData.{freed_goes_on}
use Rattle.circ_relay.proofs.circuit.Circuit.freed.Goals as goal

pub returns-clause-circuit : goal.returns-clause-circuit
returns-clause-circuit c = λ rules h is.
    let place = c.taken_place-place.result.0 in
    let stream = c.requires.stream.stream in
    let at =
    at_found c.args.self.now c.args.key c.requires.stream.place place stream c.requires.stream.at
    c.taken_place-place.ensures.first in
    freed_goes_on c.args.self.now (record c.args.self.now { places = c.freed.new.self }) rules h c.args.key place stream at
    (ap (λ (p : PlacesState). record c.args.self.now { places = p }) c.freed.ensures.place) is
