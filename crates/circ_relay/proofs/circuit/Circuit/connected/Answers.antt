use Rattle.std.proofs.Common.{sym, ap, ◌∙◌}
use Rattle.circuit_model.specs.Words.{log}
use Rattle.stream_edge.specs.PlacesState.{PlacesState}
use Rattle.circ_relay.proofs.Edges.{at_found, connected_packs, connected_goes_on}
use Rattle.circ_relay.proofs.circuit.Circuit.connected.Goals as goal

pub returns-clause-effects : goal.returns-clause-effects
returns-clause-effects c = λ rules h is.
    let place = c.taken_place-place.result.0 in
    let stream = c.requires.stream.stream in
    let at =
    at_found c.args.self.now c.args.key c.requires.stream.place place stream c.requires.stream.at
    c.taken_place-place.ensures.first in
    c.packaging.ensures.effects (log rules h) is.parts.packager
    ∙ sym (connected_packs c.args.self.now rules h c.args.key place stream _ c.address_body.result at c.address_body.ensures.body
    is)

pub returns-clause-circuit : goal.returns-clause-circuit
returns-clause-circuit c = λ rules h is.
    let place = c.taken_place-place.result.0 in
    let stream = c.requires.stream.stream in
    let at =
    at_found c.args.self.now c.args.key c.requires.stream.place place stream c.requires.stream.at
    c.taken_place-place.ensures.first in
    connected_goes_on c.args.self.now c.packaging.new.self rules h c.args.key place stream c.address_body.result at
    c.requires.stream.now
    (c.packaging.ensures.rest
    ∙ ap (λ (p : PlacesState). record c.args.self.now { packager = c.packaging.new.self.packager; places = p })
    (c.joined.ensures.stream stream at.held))
    (c.packaging.ensures.next (log rules h))
    (connected_packs c.args.self.now rules h c.args.key place stream _ c.address_body.result at c.address_body.ensures.body is)
    is
