use Rattle.std.proofs.Common.{refl}
use Rattle.circ_relay.specs.Values.{rules_of}
use Rattle.circ_relay.proofs.Opened.{opened}
use Rattle.circ_relay.proofs.circuit.Circuit.new.Goals as goal

pub returns-clause-circuit : goal.returns-clause-circuit
returns-clause-circuit c = λ reply.
    opened _ (rules_of c.args.rules.now) reply _ c.args.pad refl refl
    (record { start = c.new.ensures.start; least = c.new.ensures.least })
    c.of.ensures.packager c.new.ensures.stands c.new-2.ensures
