use Rattle.std.proofs.Common.{Some, sym, ap, ◌∙◌}
use Rattle.circuit_model.specs.Words.{log}
use Rattle.stream_edge.specs.PlacesState.{PlacesState}
use Rattle.circuit_model.specs.Log.{Effects as ModelEffects}
use Rattle.circuit_model.specs.declared.effects.Order.TheVariants.{Close}
use Rattle.circ_relay.specs.Values.{key_of}
use Rattle.circ_relay.proofs.Edges.{at_found, ended_packs, ended_goes_on}
use Rattle.circ_relay.proofs.circuit.Circuit.ended.Goals as goal

pub returns-clause-effects : goal.returns-clause-effects
returns-clause-effects c = λ rules h is.
    let place = c.taken_place-place.result.0 in
    let stream = c.requires.stream.stream in
    let at =
    at_found c.args.self.now c.args.key c.requires.stream.place place stream c.requires.stream.at
    c.taken_place-place.ensures.first in
    ap (λ (x : ModelEffects). record x { edge = Some (Close (key_of c.args.key) c.args.reason) })
    (c.packaging.ensures.effects (log rules h) is.parts.packager)
    ∙ sym (ended_packs c.args.self.now rules h c.args.key place stream c.args.reason c.end_body.result at c.end_body.ensures is)

pub returns-clause-circuit : goal.returns-clause-circuit
returns-clause-circuit c = λ rules h is.
    let place = c.taken_place-place.result.0 in
    let stream = c.requires.stream.stream in
    let at =
    at_found c.args.self.now c.args.key c.requires.stream.place place stream c.requires.stream.at
    c.taken_place-place.ensures.first in
    ended_goes_on c.args.self.now c.packaging.new.self rules h c.args.key place stream c.args.reason c.end_body.result at
    (c.packaging.ensures.rest
    ∙ ap (λ (p : PlacesState). record c.args.self.now { packager = c.packaging.new.self.packager; places = p })
    (c.ending.ensures.stream stream at.held))
    (c.packaging.ensures.next (log rules h))
    (ended_packs c.args.self.now rules h c.args.key place stream c.args.reason c.end_body.result at c.end_body.ensures is)
    is
