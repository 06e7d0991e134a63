use Rattle.std.proofs.Common.{refl, sym, subst, ◌∙◌, option_map}
use Rattle.circ_relay.specs.BroughtMessages.{after_cell}
use Rattle.circ_relay.specs.CircuitOfLog.{HasParts}
use Rattle.circ_relay.specs.Values.{address_of, rules_of}
use Rattle.circ_relay.proofs.MessageKinds.{other_packaged_parts, other_command, of_resolve, resolve_does}
use Rattle.circ_relay.proofs.circuit.Circuit.resolve.Goals as goal

pub returns-clause-parts : goal.returns-clause-parts
returns-clause-parts c = λ log command body m b has is.
    let rules = rules_of c.args.rules.now in
    let does =
    of_resolve rules log m is
    ∙ resolve_does rules log m c.args.message.now.stream c.args.message.now.payload.now c.answer_body.result
    (option_map address_of c.resolved-to.result) c.answer_body.ensures.body c.resolved-to.ensures b.stream b.payload in
    subst (λ d. HasParts d (after_cell rules log command body)) (sym c.packaging.ensures.rest)
    (other_packaged_parts c.args.self.now c.packaging.new.self.packager c.args.message.now rules log command body m
    c.answer_body.result b has does c.packaging.ensures.next (other_command m.command 11 is refl refl refl refl))
