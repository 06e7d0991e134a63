use Rattle.std.proofs.Common.{sym, ◌∙◌}
use Rattle.circ_relay.specs.Values.{rules_of}
use Rattle.circ_relay.proofs.MessageKinds.{of_data}
use Rattle.circ_relay.proofs.circuit.Circuit.message.Goals as goal

pub returns-then-message-eq-DATA-clause-effects : goal.returns-then-message-eq-DATA-clause-effects
returns-then-message-eq-DATA-clause-effects c = λ log command body m b made has.
    c.data.ensures.effects log command body m b has
    ∙ sym (of_data (rules_of c.args.rules.now) log m (sym b.relay_command ∙ c.if-message-eq-DATA.true))

pub returns-then-message-eq-DATA-clause-parts : goal.returns-then-message-eq-DATA-clause-parts
returns-then-message-eq-DATA-clause-parts c = λ log command body m b made has unclosed.
    c.data.ensures.parts (rules_of c.args.rules.now) log command body m b has (sym b.relay_command ∙ c.if-message-eq-DATA.true)
    unclosed
