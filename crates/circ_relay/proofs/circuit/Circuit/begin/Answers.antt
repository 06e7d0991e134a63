use Rattle.std.proofs.Common.{sym, ap, ◌∙◌, Some, None}
use Rattle.relay_cell.specs.Begin.{target_of}
use Rattle.circuit_model.specs.Streams.{ending, reaching}
use Rattle.circ_relay.specs.Values.{address_of, rules_of}
use Rattle.circ_relay.proofs.BeginMessages.{refused_does, begin_does, full_does, fitting_does, unbegun_parts}
use Rattle.circ_relay.proofs.circuit.Circuit.begin.Goals as goal

pub returns-then-not-may_begin-clause-effects : goal.returns-then-not-may_begin-clause-effects
returns-then-not-may_begin-clause-effects c = λ log command body m b has.
    c.closing.ensures
    ∙ sym (refused_does c.args.message.now (rules_of c.args.rules.now) log command body m c.may_begin.result b
    (c.may_begin.ensures.test log has.places b.named) c.if-not-may_begin.true)

pub returns-in_default-clause-effects : goal.returns-in_default-clause-effects
returns-in_default-clause-effects c = λ log command body m b has.
    let rules = rules_of c.args.rules.now in
    c.ending.ensures.effects log has.packager ∙ ap (λ n. ending log n 13) b.stream
    ∙ sym (begin_does c.args.message.now rules log command body m c.may_begin.result None b
    (c.may_begin.ensures.test log has.places b.named) c.if-not-may_begin.false c.in_default.ensures.none)

pub returns-in_default-clause-parts : goal.returns-in_default-clause-parts
returns-in_default-clause-parts c = λ log command body m b has is unclosed.
    let rules = rules_of c.args.rules.now in
    unbegun_parts c.args.self.now c.ending.new.self c.args.message.now rules log command body m 13 b has is
    (begin_does c.args.message.now rules log command body m c.may_begin.result None b
    (c.may_begin.ensures.test log has.places b.named) c.if-not-may_begin.false c.in_default.ensures.none)
    c.ending.ensures.next c.ending.ensures.rest

pub returns-then-not-has_place-clause-effects : goal.returns-then-not-has_place-clause-effects
returns-then-not-has_place-clause-effects c = λ log command body m b has.
    let rules = rules_of c.args.rules.now in
    let target = target_of c.in-Some.begin in
    c.ending-then-not-has_place.ensures.effects log has.packager ∙ ap (λ n. ending log n 11) b.stream
    ∙ sym (begin_does c.args.message.now rules log command body m c.may_begin.result (Some target) b
    (c.may_begin.ensures.test log has.places b.named) c.if-not-may_begin.false c.in-Some.ensures.some
    ∙ full_does rules log m.stream target c.has_place.result (c.has_place.ensures.test log has.places b.named)
    c.if-not-has_place.true)

pub returns-then-not-has_place-clause-parts : goal.returns-then-not-has_place-clause-parts
returns-then-not-has_place-clause-parts c = λ log command body m b has is unclosed.
    let rules = rules_of c.args.rules.now in
    let target = target_of c.in-Some.begin in
    unbegun_parts c.args.self.now c.ending-then-not-has_place.new.self c.args.message.now rules log command body m 11 b has is
    (begin_does c.args.message.now rules log command body m c.may_begin.result (Some target) b
    (c.may_begin.ensures.test log has.places b.named) c.if-not-may_begin.false c.in-Some.ensures.some
    ∙ full_does rules log m.stream target c.has_place.result (c.has_place.ensures.test log has.places b.named)
    c.if-not-has_place.true)
    c.ending-then-not-has_place.ensures.next c.ending-then-not-has_place.ensures.rest

pub returns-in-Some-allowed-clause-effects : goal.returns-in-Some-allowed-clause-effects
returns-in-Some-allowed-clause-effects c = λ log command body m b has.
    let rules = rules_of c.args.rules.now in
    let target = target_of c.in-Some.begin in
    c.reach.ensures.effects log has.places ∙ ap (λ n. reaching log n (Some (address_of c.in-Some-allowed.to))) b.stream
    ∙ sym (begin_does c.args.message.now rules log command body m c.may_begin.result (Some target) b
    (c.may_begin.ensures.test log has.places b.named) c.if-not-may_begin.false c.in-Some.ensures.some
    ∙ fitting_does rules log m.stream target c.has_place.result (Some (address_of c.in-Some-allowed.to))
    (c.has_place.ensures.test log has.places b.named) c.if-not-has_place.false c.in-Some-allowed.ensures)

pub returns-in-Some-allowed-clause-parts : goal.returns-in-Some-allowed-clause-parts
returns-in-Some-allowed-clause-parts c = λ log command body m b has is unclosed.
    let rules = rules_of c.args.rules.now in
    let target = target_of c.in-Some.begin in
    c.reach.ensures.parts rules log command body m b has is
    (begin_does c.args.message.now rules log command body m c.may_begin.result (Some target) b
    (c.may_begin.ensures.test log has.places b.named) c.if-not-may_begin.false c.in-Some.ensures.some
    ∙ fitting_does rules log m.stream target c.has_place.result (Some (address_of c.in-Some-allowed.to))
    (c.has_place.ensures.test log has.places b.named) c.if-not-has_place.false c.in-Some-allowed.ensures)

pub returns-in-None-clause-effects : goal.returns-in-None-clause-effects
returns-in-None-clause-effects c = λ log command body m b has.
    let rules = rules_of c.args.rules.now in
    let target = target_of c.in-Some.begin in
    c.ending-in-None.ensures.effects log has.packager ∙ ap (λ n. ending log n 4) b.stream
    ∙ sym (begin_does c.args.message.now rules log command body m c.may_begin.result (Some target) b
    (c.may_begin.ensures.test log has.places b.named) c.if-not-may_begin.false c.in-Some.ensures.some
    ∙ fitting_does rules log m.stream target c.has_place.result None (c.has_place.ensures.test log has.places b.named)
    c.if-not-has_place.false c.in-None.ensures)

pub returns-in-None-clause-parts : goal.returns-in-None-clause-parts
returns-in-None-clause-parts c = λ log command body m b has is unclosed.
    let rules = rules_of c.args.rules.now in
    let target = target_of c.in-Some.begin in
    unbegun_parts c.args.self.now c.ending-in-None.new.self c.args.message.now rules log command body m 4 b has is
    (begin_does c.args.message.now rules log command body m c.may_begin.result (Some target) b
    (c.may_begin.ensures.test log has.places b.named) c.if-not-may_begin.false c.in-Some.ensures.some
    ∙ fitting_does rules log m.stream target c.has_place.result None (c.has_place.ensures.test log has.places b.named)
    c.if-not-has_place.false c.in-None.ensures)
    c.ending-in-None.ensures.next c.ending-in-None.ensures.rest
