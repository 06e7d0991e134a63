use Rattle.std.proofs.Common.{[], ◌∷◌, ◌++◌, Some, sym, ap, ◌∙◌}
use Rattle.circuit_model.specs.Words.{log}
use Rattle.stream_edge.specs.PlacesState.{PlacesState}
use Rattle.circuit_model.specs.Log.{no_effects}
use Rattle.circuit_model.specs.Packaged.{own_bodies}
use Rattle.circ_relay.proofs.Edges.{at_found}
use Rattle.circ_relay.proofs.EdgeData.{data_packs, data_windows, data_goes_on}
use Rattle.circ_relay.proofs.circuit.Circuit.bytes.Goals as goal

pub returns-clause-effects : goal.returns-clause-effects
returns-clause-effects c = λ rules h is.
    let place = c.taken_place-place.result.0 in
    let stream = c.requires.stream.stream in
    let at =
    at_found c.args.self.now c.args.key c.requires.stream.place place stream c.requires.stream.at
    c.taken_place-place.ensures.first in
    ap (λ b. record no_effects { back = Some b }) (c.package-digest.ensures.body (log rules h) is.parts.packager)
    ∙ sym (data_packs c.args.self.now rules h c.args.key place stream c.args.bytes.now c.data_body-body.result at
    c.data_body-body.ensures is)

pub returns-clause-circuit : goal.returns-clause-circuit
returns-clause-circuit c = λ rules h is.
    let self = c.args.self.now in
    let place = c.taken_place-place.result.0 in
    let stream = c.requires.stream.stream in
    let at =
    at_found self c.args.key c.requires.stream.place place stream c.requires.stream.at c.taken_place-place.ensures.first in
    let sent = c.package-digest.ensures.body (log rules h) is.parts.packager in
    data_goes_on self
    (record self { packager = c.package-digest.new.self; windows = c.packed-2.new.self; places = c.packed.new.self })
    rules h c.args.key place stream c.args.bytes.now c.data_body-body.result at
    (ap (λ (p : PlacesState). record self { packager = c.package-digest.new.self; windows = c.packed-2.new.self; places = p })
    (c.packed.ensures.stream stream at.held))
    (λ packager longer more. c.package-digest.ensures.next (log rules h) packager longer
    (more ∙ ap (λ b. own_bodies (log rules h) ++ b ∷ []) (sym sent)))
    (data_packs self rules h c.args.key place stream c.args.bytes.now c.data_body-body.result at c.data_body-body.ensures is)
    c.packed-2.ensures.limits
    (data_windows self c.packed-2.new.self rules h c.args.key place stream c.args.bytes.now c.data_body-body.result
    c.package-digest.new.body c.package-digest.result
    at c.data_body-body.ensures sent (c.package-digest.ensures.digest (log rules h) is.parts.packager) c.packed-2.ensures.stands
    is)
    is
