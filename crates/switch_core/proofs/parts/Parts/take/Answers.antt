use Rattle.std.proofs.Common.{sym, ap, ◌∙◌}
use Rattle.switch_model.specs.Names.{circuit_cell}
use Rattle.switch_machine.specs.Machine.{counted}
use Rattle.switch_core.proofs.Takes.{passed_state}
use Rattle.switch_core.proofs.TakeSteps.{is_on_leg}
use Rattle.switch_core.proofs.parts.Parts.take.Goals as goal

pub returns-in-Some-clause-state : goal.returns-in-Some-clause-state
returns-in-Some-clause-state c =
    λ rules ev. ap counted c.self.view_is ∙ passed_state rules ev c.args.self.now c.args.chan.0 c.args.cell.now c.in-Some.why
    (sym c.in-Some.ensures)

pub returns-in-Some-circuit_with-clause-leg : goal.returns-in-Some-circuit_with-clause-leg
returns-in-Some-circuit_with-clause-leg c =
    is_on_leg c.take_on.result c.args.self.now c.args.chan.0 c.args.cell.now.circ c.in-Some-circuit_with.number
    (circuit_cell c.args.cell.now) c.in-Some-circuit_with.ensures.leg c.take_on.ensures.answer
