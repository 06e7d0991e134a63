use Rattle.std.proofs.Common.{sym, ap, ◌∙◌, refl}
use Rattle.tor_spec.specs.RelayCell.{RelayHead}
use Rattle.circuit_model.specs.Received.{message_in_body}
use Rattle.circ_relay.specs.Values.{rules_of}
use Rattle.circ_relay.proofs.ReceivedCells.{too_long_does, brought, payload_fits, data_for_live}
use Rattle.circ_relay.proofs.MessageKinds.{does}
use Rattle.circ_relay.proofs.circuit.Circuit.received.Goals as goal

pub returns-in_default-clause-effects : goal.returns-in_default-clause-effects
returns-in_default-clause-effects c = λ log body cell made has.
    c.closing.ensures
    ∙ sym (too_long_does c.args.opened.now (rules_of c.args.rules.now) log c.args.command body c.args.digest cell
    c.requires.recognised c.in_default.ensures.none)

pub invariant_of-message : goal.invariant_of-message
invariant_of-message c =
    record { short = payload_fits c.args.opened.now.body c.payload_of.result.now c.in-Some.ensures.fits c.payload_of.ensures }

pub message-requires-clause-ample : goal.message-requires-clause-ample
message-requires-clause-ample c = λ data_ live.
    c.requires.ample
    (data_for_live c.args.opened.now c.args.self.now.places c.in-Some.head.command c.in-Some.head.stream c.args.digest
    c.requires.recognised c.in-Some.ensures.fits
    (ap (λ (h : RelayHead). h.command) c.in-Some.ensures.some) (ap (λ (h : RelayHead). h.stream) c.in-Some.ensures.some) data_
    live)

pub returns-clause-effects : goal.returns-clause-effects
returns-clause-effects c = λ log body cell made has.
    let m = message_in_body log c.args.command c.args.opened.now.body in
    let b = (brought c.args.opened.now _ log c.args.command body c.args.digest cell c.requires.recognised c.in-Some.ensures.fits
    (ap (λ (h : RelayHead). h.command) c.in-Some.ensures.some) (ap (λ (h : RelayHead). h.stream) c.in-Some.ensures.some)
    c.payload_of.ensures refl refl) in
    c.message.ensures.effects log c.args.command body m b made has
    ∙ sym (does _ (rules_of c.args.rules.now) log c.args.command body m b)

pub returns-clause-parts : goal.returns-clause-parts
returns-clause-parts c = λ log body cell made has unclosed.
    c.message.ensures.parts log c.args.command body (message_in_body log c.args.command c.args.opened.now.body)
    (brought c.args.opened.now _ log c.args.command body c.args.digest cell c.requires.recognised c.in-Some.ensures.fits
    (ap (λ (h : RelayHead). h.command) c.in-Some.ensures.some) (ap (λ (h : RelayHead). h.stream) c.in-Some.ensures.some)
    c.payload_of.ensures refl refl)
    made has unclosed
