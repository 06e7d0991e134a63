use Rattle.std.proofs.Common.{sym, ◌∙◌}
use Rattle.circ_relay.proofs.Nexts.{failed_gives}
use Rattle.circ_relay.proofs.circuit.Circuit.next_failed.Goals as goal

pub returns-clause-effects : goal.returns-clause-effects
returns-clause-effects c = λ rules h is. c.closing.ensures ∙ sym (failed_gives c.args.self.now rules h is)
