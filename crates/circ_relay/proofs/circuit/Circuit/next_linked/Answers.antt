use Rattle.std.proofs.Common.{sym, ◌∙◌}
use Rattle.circ_relay.specs.Values.{effects_of}
use Rattle.circ_relay.proofs.Nexts.{put_forth, linked_gives, linked_keeps}
use Rattle.circ_relay.proofs.circuit.Circuit.next_linked.Goals as goal

pub returns-clause-effects : goal.returns-clause-effects
returns-clause-effects c = λ rules h is.
    put_forth (effects_of c.none.result) (record { command = 10; body = c.args.self.now.create2 }) c.none.ensures
    ∙ sym (linked_gives c.args.self.now rules h c.requires is)

pub returns-clause-circuit : goal.returns-clause-circuit
returns-clause-circuit c = λ rules h is. linked_keeps c.args.self.now rules h c.requires is
