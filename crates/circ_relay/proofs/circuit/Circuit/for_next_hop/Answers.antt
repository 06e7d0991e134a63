use Rattle.std.proofs.Common.{not, sym, ap, refl, ◌∙◌}
use Rattle.circuit_model.specs.Words.{log}
use Rattle.circ_relay.specs.Values.{effects_of}
use Rattle.circ_relay.proofs.ReceivedCells.{too_many_does, passed_on_does, passed_on_parts}
use Rattle.circ_relay.proofs.EarlyCells.{too_many, cell_of_history, early_apart, limits_early, circuit_after}
use Rattle.circ_relay.proofs.circuit.Circuit.for_next_hop.Goals as goal

pub returns-then-not-counts-clause-effects : goal.returns-then-not-counts-clause-effects
returns-then-not-counts-clause-effects c = λ rules h body is opens.
    c.closing.ensures
    ∙ sym (too_many_does rules (log rules h) c.args.command body is.unclosed
    (too_many c.args.self.now rules h c.args.command c.counts.result is c.counts.ensures.test ∙ ap not c.if-not-counts.true))

pub returns-clause-effects : goal.returns-clause-effects
returns-clause-effects c = λ rules h body is opens.
    let cell =
    cell_of_history c.args.self.now c.args.opened.now rules h c.args.command body c.counts.result is opens c.counts.ensures.test
    c.if-not-counts.false in
    let has =
    early_apart c.args.self.now c.counts.new.self c.counts.new.self.early_cells (log rules h) c.counts.ensures.rest is.parts in
    c.passed_on.ensures.effects (log rules h) has
    ∙ sym (passed_on_does c.args.opened.now rules (log rules h) c.args.command body cell c.requires)

pub returns-clause-circuit : goal.returns-clause-circuit
returns-clause-circuit c = λ rules h body is opens unclosed.
    let cell =
    cell_of_history c.args.self.now c.args.opened.now rules h c.args.command body c.counts.result is opens c.counts.ensures.test
    c.if-not-counts.false in
    let has =
    early_apart c.args.self.now c.counts.new.self c.counts.new.self.early_cells (log rules h) c.counts.ensures.rest is.parts in
    circuit_after c.args.self.now c.counts.new.self rules h c.args.command body (effects_of c.passed_on.result) is
    (passed_on_does c.args.opened.now rules (log rules h) c.args.command body cell c.requires
    ∙ sym (c.passed_on.ensures.effects (log rules h) has)) unclosed
    (c.counts.ensures.early c.if-not-counts.false)
    (limits_early c.args.self.now c.counts.new.self c.counts.new.self c.counts.new.self.early_cells c.counts.ensures.rest
    (record { start = refl; least = refl }))
    (passed_on_parts c.counts.new.self c.args.opened.now rules (log rules h) c.args.command body cell has c.requires)
