use Rattle.std.proofs.Common.{sym, ◌∙◌, Some, None}
use Rattle.circuit_model.specs.Streams.{acknowledging}
use Rattle.circ_relay.specs.WindowOfLog.{window_of}
use Rattle.circ_relay.proofs.MessageKinds.{brought_place}
use Rattle.circ_relay.proofs.DataMessages.{placeless_data_does, placeless_data_parts, overrun_does, accepted_does, carried_effects, accepted_parts}
use Rattle.circ_relay.proofs.circuit.Circuit.data.Goals as goal

pub returns-in_default-clause-effects : goal.returns-in_default-clause-effects
returns-in_default-clause-effects c = λ log command body m b has.
    c.acknowledging.ensures.effects log m has.packager has.windows (sym b.digest)
    ∙ sym (placeless_data_does log m
    (brought_place c.args.message.now log command body m None b (c.in_default.ensures.none log has.places b.named)))

pub returns-in_default-clause-parts : goal.returns-in_default-clause-parts
returns-in_default-clause-parts c = λ rules log command body m b has is unclosed.
    placeless_data_parts c.args.self.now c.acknowledging.new.self c.args.message.now rules log command body m b has is
    (brought_place c.args.message.now log command body m None b (c.in_default.ensures.none log has.places b.named))
    (c.acknowledging.ensures.packager log m has.packager has.windows (sym b.digest))
    (c.acknowledging.ensures.stands (window_of log) has.windows) c.acknowledging.ensures.rest

pub returns-in-Overrun-clause-effects : goal.returns-in-Overrun-clause-effects
returns-in-Overrun-clause-effects c = λ log command body m b has.
    let live = c.in-Some.ensures.live in
    c.closing.ensures
    ∙ sym (overrun_does c.args.self.now.places log m c.in-Some.place.0 live.0 c.accepted.result has.places live.1
    (brought_place c.args.message.now log command body m (Some live.0.serial) b
    (c.in-Some.ensures.serial log live.0 has.places b.named live.1)) (c.accepted.ensures.answer live.0 live.1)
    c.in-Overrun.is)

pub returns-in-Accepted-clause-effects : goal.returns-in-Accepted-clause-effects
returns-in-Accepted-clause-effects c = λ log command body m b has.
    let live = c.in-Some.ensures.live in
    carried_effects c.acknowledging-in-Accepted.new.outcome (acknowledging log m) c.key_at-key.result c.filled.result
    c.args.message.now.stream c.args.message.now.payload.now m live.0.serial
    (c.acknowledging-in-Accepted.ensures.effects log m has.packager has.windows (sym b.digest))
    (c.key_at-key.ensures.key live.0 live.1) c.filled.ensures b.stream b.payload
    ∙ sym (accepted_does c.args.self.now.places log m c.in-Some.place.0 live.0 c.accepted.result has.places live.1
    (brought_place c.args.message.now log command body m (Some live.0.serial) b
    (c.in-Some.ensures.serial log live.0 has.places b.named live.1)) (c.accepted.ensures.answer live.0 live.1)
    c.in-Accepted.is)

pub returns-in-Accepted-clause-parts : goal.returns-in-Accepted-clause-parts
returns-in-Accepted-clause-parts c = λ rules log command body m b has is unclosed.
    let live = c.in-Some.ensures.live in
    accepted_parts c.args.self.now c.acknowledging-in-Accepted.new.self c.accepted.new.self c.args.message.now rules log command
    body m c.in-Some.place.0 live.0 c.accepted.result b has is
    (brought_place c.args.message.now log command body m (Some live.0.serial) b
    (c.in-Some.ensures.serial log live.0 has.places b.named live.1)) live.1
    (c.accepted.ensures.answer live.0 live.1) c.in-Accepted.is (c.accepted.ensures.counted live.0 live.1)
    (c.acknowledging-in-Accepted.ensures.packager log m has.packager has.windows (sym b.digest))
    (c.acknowledging-in-Accepted.ensures.stands (window_of log) has.windows) c.acknowledging-in-Accepted.ensures.rest
