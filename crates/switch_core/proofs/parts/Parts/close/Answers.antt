use Rattle.switch_core.proofs.TakeSteps.{closed_other}
use Rattle.switch_core.proofs.parts.Parts.close.Goals as goal

pub returns-in_default-clause-answer : goal.returns-in_default-clause-answer
returns-in_default-clause-answer c =
    closed_other c.args.self.now c.args.circ.0 c.args.reason c.tear_down.result c.tear_down.ensures.answer c.in_default.not-Down
