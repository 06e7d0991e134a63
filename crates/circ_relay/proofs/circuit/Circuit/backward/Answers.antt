use Rattle.std.proofs.Common.{sym}
use Rattle.circ_relay.proofs.Nexts.{backward_gives, backward_keeps}
use Rattle.circ_relay.proofs.circuit.Circuit.backward.Goals as goal

pub returns-clause-effects : goal.returns-clause-effects
returns-clause-effects c = λ rules h is.
    sym (backward_gives c.args.self.now rules h c.args.body.now is)

pub returns-clause-circuit : goal.returns-clause-circuit
returns-clause-circuit c = λ rules h is. backward_keeps c.args.self.now rules h c.args.body.now is
