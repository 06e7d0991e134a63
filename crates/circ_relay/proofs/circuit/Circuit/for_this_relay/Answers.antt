use Rattle.std.proofs.Common.{not, sym, ap, ◌∙◌}
use Rattle.circuit_model.specs.Words.{log}
use Rattle.circ_relay.specs.Values.{effects_of, rules_of}
use Rattle.circ_relay.proofs.ReceivedCells.{too_many_does}
use Rattle.circ_relay.proofs.EarlyCells.{too_many, cell_of_history, early_apart, made_early, limits_early, circuit_after}
use Rattle.circ_relay.proofs.circuit.Circuit.for_this_relay.Goals as goal

pub returns-then-not-counts-clause-effects : goal.returns-then-not-counts-clause-effects
returns-then-not-counts-clause-effects c = λ h body is opens.
    let rules = rules_of c.args.rules.now in
    c.closing.ensures
    ∙ sym (too_many_does rules (log rules h) c.args.command body is.unclosed
    (too_many c.args.self.now rules h c.args.command c.counts.result is c.counts.ensures.test ∙ ap not c.if-not-counts.true))

pub returns-clause-effects : goal.returns-clause-effects
returns-clause-effects c = λ h body is opens.
    let rules = rules_of c.args.rules.now in
    let cell =
    cell_of_history c.args.self.now c.args.opened.now rules h c.args.command body c.counts.result is opens c.counts.ensures.test
    c.if-not-counts.false in
    let has =
    early_apart c.args.self.now c.counts.new.self c.counts.new.self.early_cells (log rules h) c.counts.ensures.rest is.parts in
    let made = made_early c.args.self.now c.counts.new.self c.counts.new.self.early_cells rules c.counts.ensures.rest is.made in
    c.received.ensures.effects (log rules h) body cell made has

pub returns-clause-circuit : goal.returns-clause-circuit
returns-clause-circuit c = λ h body is opens unclosed.
    let rules = rules_of c.args.rules.now in
    let cell =
    cell_of_history c.args.self.now c.args.opened.now rules h c.args.command body c.counts.result is opens c.counts.ensures.test
    c.if-not-counts.false in
    let has =
    early_apart c.args.self.now c.counts.new.self c.counts.new.self.early_cells (log rules h) c.counts.ensures.rest is.parts in
    let made = made_early c.args.self.now c.counts.new.self c.counts.new.self.early_cells rules c.counts.ensures.rest is.made in
    circuit_after c.args.self.now c.received.new.self rules h c.args.command body (effects_of c.received.new.outcome) is
    (sym (c.received.ensures.effects (log rules h) body cell made has)) unclosed
    (c.received.ensures.early ∙ c.counts.ensures.early c.if-not-counts.false)
    (limits_early c.args.self.now c.counts.new.self c.received.new.self c.counts.new.self.early_cells c.counts.ensures.rest
    c.received.ensures.limits)
    (c.received.ensures.parts (log rules h) body cell made has unclosed)
