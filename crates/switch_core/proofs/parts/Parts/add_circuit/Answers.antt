use Rattle.std.proofs.Common.{subst, sym, ap, ◌+◌}
use Rattle.switch_core.specs.Meaning.{StepsFit}
use Rattle.switch_core.proofs.Taken.{fits_opened, taken_count}
use Rattle.switch_core.proofs.parts.Parts.add_circuit.Goals as goal

pub invariant_of-self-2 : goal.invariant_of-self-2
invariant_of-self-2 c =
    subst (StepsFit (record c.self.inside.counters { steps = c.self.inside.counters.steps + 1 }) c.self.inside.channels.items)
    (sym c.in_ok-push.ensures.items)
    (fits_opened c.self.inside.counters c.self.inside.channels.items c.self.inside.circuits.items c.new-2.result c.self.invariant
    (ap taken_count c.new-2.ensures))
