use Rattle.std.proofs.Common.{false, true, unwrap_or, sym, ap, ◌∙◌}
use Rattle.stream_edge.specs.PlacesState.{PlacesState}
use Rattle.circuit_model.specs.Words.{log}
use Rattle.circ_relay.proofs.Edges.{at_found, packs}
use Rattle.circ_relay.proofs.EdgeData.{drained_packs, due_goes_on, undue_goes_on}
use Rattle.circ_relay.proofs.circuit.Circuit.drained.Goals as goal

pub returns-then-is_due-clause-effects : goal.returns-then-is_due-clause-effects
returns-then-is_due-clause-effects c = λ rules h is.
    let self = c.args.self.now in
    let place = c.taken_place-place.result.0 in
    let stream = c.requires.stream.stream in
    let at =
    at_found self c.args.key c.requires.stream.place place stream c.requires.stream.at c.taken_place-place.ensures.first in
    let due =
    sym c.if-is_due.true ∙ c.unwrap_or-is_due.ensures
    ∙ ap (λ o. unwrap_or o false) (c.drained.ensures.answer stream at.held) in
    c.packaging.ensures.effects (log rules h) is.parts.packager
    ∙ ap (packs (log rules h)) c.stream_sendme_body.ensures
    ∙ sym (drained_packs self rules h c.args.key place stream true at c.requires.stream.undrained due is)

pub returns-then-is_due-clause-circuit : goal.returns-then-is_due-clause-circuit
returns-then-is_due-clause-circuit c = λ rules h is.
    let self = c.args.self.now in
    let place = c.taken_place-place.result.0 in
    let stream = c.requires.stream.stream in
    let at =
    at_found self c.args.key c.requires.stream.place place stream c.requires.stream.at c.taken_place-place.ensures.first in
    let due =
    sym c.if-is_due.true ∙ c.unwrap_or-is_due.ensures
    ∙ ap (λ o. unwrap_or o false) (c.drained.ensures.answer stream at.held) in
    due_goes_on self c.packaging.new.self rules h c.args.key place stream c.stream_sendme_body.result at
    c.requires.stream.undrained
    (c.packaging.ensures.rest ∙ ap (λ (p : PlacesState). record self { packager = c.packaging.new.self.packager; places = p })
    (c.drained.ensures.counted stream at.held))
    (c.packaging.ensures.next (log rules h))
    (drained_packs self rules h c.args.key place stream true at c.requires.stream.undrained due is
    ∙ ap (packs (log rules h)) (sym c.stream_sendme_body.ensures))
    is

pub returns-else-is_due-clause-effects : goal.returns-else-is_due-clause-effects
returns-else-is_due-clause-effects c = λ rules h is.
    let self = c.args.self.now in
    let place = c.taken_place-place.result.0 in
    let stream = c.requires.stream.stream in
    let at =
    at_found self c.args.key c.requires.stream.place place stream c.requires.stream.at c.taken_place-place.ensures.first in
    let due =
    sym c.if-is_due.false ∙ c.unwrap_or-is_due.ensures
    ∙ ap (λ o. unwrap_or o false) (c.drained.ensures.answer stream at.held) in
    c.none.ensures ∙ sym (drained_packs self rules h c.args.key place stream false at c.requires.stream.undrained due is)

pub returns-else-is_due-clause-circuit : goal.returns-else-is_due-clause-circuit
returns-else-is_due-clause-circuit c = λ rules h is.
    let self = c.args.self.now in
    let place = c.taken_place-place.result.0 in
    let stream = c.requires.stream.stream in
    let at =
    at_found self c.args.key c.requires.stream.place place stream c.requires.stream.at c.taken_place-place.ensures.first in
    let due =
    sym c.if-is_due.false ∙ c.unwrap_or-is_due.ensures
    ∙ ap (λ o. unwrap_or o false) (c.drained.ensures.answer stream at.held) in
    undue_goes_on self (record self { places = c.drained.new.self }) rules h c.args.key place stream at
    c.requires.stream.undrained
    (ap (λ (p : PlacesState). record self { places = p }) (c.drained.ensures.counted stream at.held))
    (drained_packs self rules h c.args.key place stream false at c.requires.stream.undrained due is)
    is
