use Rattle.std.proofs.Common.{ap, sym, ◌∙◌, Some, None}
use Rattle.sendme_windows.specs.Answers.{answer_to}
use Rattle.circ_relay.specs.WindowOfLog.{window_of}
use Rattle.circ_relay.proofs.MessageKinds.{brought_place}
use Rattle.circ_relay.proofs.SendmeMessages.{good_sendme_does, other_sendme_does, unclosing, good_sendme_parts, placeless_sendme_does, placeless_sendme_parts, raised_does, too_much_does, raised_parts}
use Rattle.circ_relay.proofs.circuit.Circuit.sendme.Goals as goal

pub returns-in-Good-clause-effects : goal.returns-in-Good-clause-effects
returns-in-Good-clause-effects c = λ rules log command body m b made has.
    c.none.ensures
    ∙ sym (good_sendme_does rules log m c.args.message.now.payload.now c.proof_of.result (sym b.stream ∙ c.if-message-eq0.true)
    b.payload (c.proof_of.ensures.answer (window_of log) has.windows
    ∙ ap (λ n. answer_to n (window_of log) c.args.message.now.payload.now) made.least) c.in-Good.is)

pub returns-in-Good-clause-parts : goal.returns-in-Good-clause-parts
returns-in-Good-clause-parts c = λ rules log command body m b made has is unclosed.
    good_sendme_parts c.args.self.now c.proof_of.new.self c.args.message.now rules log command body m c.proof_of.result b has is
    c.if-message-eq0.true
    (c.proof_of.ensures.answer (window_of log) has.windows ∙ ap (λ n. answer_to n (window_of log) c.args.message.now.payload.now)
    made.least) c.in-Good.is (c.proof_of.ensures.stands (window_of log) has.windows)

pub returns-in_default-clause-effects : goal.returns-in_default-clause-effects
returns-in_default-clause-effects c = λ rules log command body m b made has.
    c.closing.ensures
    ∙ sym (other_sendme_does rules log m c.args.message.now.payload.now c.proof_of.result (sym b.stream ∙ c.if-message-eq0.true)
    b.payload (c.proof_of.ensures.answer (window_of log) has.windows
    ∙ ap (λ n. answer_to n (window_of log) c.args.message.now.payload.now) made.least) c.in_default.not-Good)

pub returns-in_default-clause-parts : goal.returns-in_default-clause-parts
returns-in_default-clause-parts c =
    λ rules log command body m b made has is unclosed. absurd (unclosing c.closing.result c.closing.ensures unclosed)

pub returns-in_default-live_place-clause-effects : goal.returns-in_default-live_place-clause-effects
returns-in_default-live_place-clause-effects c = λ rules log command body m b made has.
    c.none-in_default-live_place.ensures
    ∙ sym (placeless_sendme_does rules log m (λ zero_. c.if-message-eq0.false (b.stream ∙ zero_))
    (brought_place c.args.message.now log command body m None b
    (c.in_default-live_place.ensures.none log has.places b.named)))

pub returns-in_default-live_place-clause-parts : goal.returns-in_default-live_place-clause-parts
returns-in_default-live_place-clause-parts c = λ rules log command body m b made has is unclosed.
    placeless_sendme_parts c.args.self.now c.args.message.now rules log command body m b has is
    (λ zero_. c.if-message-eq0.false (b.stream ∙ zero_))
    (brought_place c.args.message.now log command body m None b (c.in_default-live_place.ensures.none log has.places b.named))

pub returns-in-Raised-clause-effects : goal.returns-in-Raised-clause-effects
returns-in-Raised-clause-effects c = λ rules log command body m b made has.
    let live = c.in-Some.ensures.live in
    c.none-in-Raised.ensures
    ∙ sym (raised_does rules c.args.self.now.places log m c.in-Some.place.0 live.0 c.credit.result has.places live.1
    (λ zero_. c.if-message-eq0.false (b.stream ∙ zero_))
    (brought_place c.args.message.now log command body m (Some live.0.serial) b
    (c.in-Some.ensures.serial log live.0 has.places b.named live.1)) (c.credit.ensures.answer live.0 live.1) c.in-Raised.is)

pub returns-in-Raised-clause-parts : goal.returns-in-Raised-clause-parts
returns-in-Raised-clause-parts c = λ rules log command body m b made has is unclosed.
    let live = c.in-Some.ensures.live in
    raised_parts c.args.self.now c.credit.new.self c.args.message.now rules log command body m c.in-Some.place.0 live.0
    c.credit.result b has is (λ zero_. c.if-message-eq0.false (b.stream ∙ zero_))
    (brought_place c.args.message.now log command body m (Some live.0.serial) b
    (c.in-Some.ensures.serial log live.0 has.places b.named live.1)) live.1
    (c.credit.ensures.answer live.0 live.1) c.in-Raised.is (c.credit.ensures.counted live.0 live.1)

pub returns-in-TooMuch-clause-effects : goal.returns-in-TooMuch-clause-effects
returns-in-TooMuch-clause-effects c = λ rules log command body m b made has.
    let live = c.in-Some.ensures.live in
    c.closing-in-TooMuch.ensures
    ∙ sym (too_much_does rules c.args.self.now.places log m c.in-Some.place.0 live.0 c.credit.result has.places live.1
    (λ zero_. c.if-message-eq0.false (b.stream ∙ zero_))
    (brought_place c.args.message.now log command body m (Some live.0.serial) b
    (c.in-Some.ensures.serial log live.0 has.places b.named live.1)) (c.credit.ensures.answer live.0 live.1) c.in-TooMuch.is)
