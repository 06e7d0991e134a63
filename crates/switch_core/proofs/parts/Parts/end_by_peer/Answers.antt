use Rattle.std.proofs.Common.{ap, ◌∙◌}
use Rattle.switch_machine.specs.Machine.{counted}
use Rattle.switch_core.proofs.TakeSteps.{ended_none}
use Rattle.switch_core.proofs.parts.Parts.end_by_peer.Goals as goal

pub returns-in_default-clause-state : goal.returns-in_default-clause-state
returns-in_default-clause-state c =
    ap counted (c.self.view_is ∙ c.in_default.ensures.none.1)
    ∙ ended_none c.args.self.now c.args.circ.0 c.in_default.ensures.none.0
