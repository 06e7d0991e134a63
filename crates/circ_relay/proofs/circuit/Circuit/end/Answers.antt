use Rattle.std.proofs.Common.{sym, ◌∙◌, Some, None}
use Rattle.circ_relay.proofs.MessageKinds.{brought_place}
use Rattle.circ_relay.proofs.EndMessages.{placeless_end, ended_effects, ended_parts, unended_parts}
use Rattle.circ_relay.proofs.circuit.Circuit.end.Goals as goal

pub returns-in_default-clause-effects : goal.returns-in_default-clause-effects
returns-in_default-clause-effects c = λ log command body m b has.
    c.none.ensures
    ∙ sym (placeless_end m
    (brought_place c.args.message.now log command body m None b (c.in_default.ensures.none log has.places b.named)))

pub returns-in_default-clause-parts : goal.returns-in_default-clause-parts
returns-in_default-clause-parts c = λ rules log command body m b has is unclosed.
    unended_parts c.args.self.now c.args.message.now rules log command body m b has is
    (brought_place c.args.message.now log command body m None b (c.in_default.ensures.none log has.places b.named))

pub returns-clause-effects : goal.returns-clause-effects
returns-clause-effects c = λ log command body m b has.
    let live = c.in-Some.ensures.live in
    ended_effects c.none-2.result c.key_at-key.result c.end_reason.result c.args.message.now.stream c.args.message.now.payload.now
    m live.0 c.none-2.ensures
    (c.key_at-key.ensures.key live.0 live.1) c.end_reason.ensures b.stream b.payload
    (brought_place c.args.message.now log command body m (Some live.0.serial) b
    (c.in-Some.ensures.serial log live.0 has.places b.named live.1))

pub returns-clause-parts : goal.returns-clause-parts
returns-clause-parts c = λ rules log command body m b has is unclosed.
    let live = c.in-Some.ensures.live in
    ended_parts c.args.self.now c.ending.new.self c.args.message.now rules log command body m c.in-Some.place.0 live.0 b has is
    (brought_place c.args.message.now log command body m (Some live.0.serial) b
    (c.in-Some.ensures.serial log live.0 has.places b.named live.1))
    live.1 (c.ending.ensures.stream live.0 live.1)
