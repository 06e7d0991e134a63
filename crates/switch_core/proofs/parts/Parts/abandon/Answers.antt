use Rattle.std.proofs.Common.{sym, ap, ◌∙◌}
use Rattle.switch_machine.specs.Machine.{counted}
use Rattle.switch_core.proofs.Returns.{refused_answer, refused_state}
use Rattle.switch_core.proofs.HomeReturns.{torn_answer, torn_state_is}
use Rattle.switch_core.proofs.parts.Parts.abandon.Goals as goal

pub returns-in-Some-clause-state : goal.returns-in-Some-clause-state
returns-in-Some-clause-state c = λ rules ev.
    ap counted c.self.view_is ∙ refused_state c.args.switch rules ev c.args.self.now c.args.note c.args.place c.in-Some.answer
    (sym c.in-Some.ensures)

pub returns-in-Some-clause-answer : goal.returns-in-Some-clause-answer
returns-in-Some-clause-answer c =
    refused_answer c.args.switch c.args.self.now c.args.note c.args.place c.in-Some.answer (sym c.in-Some.ensures)

pub returns-in-None-clause-state : goal.returns-in-None-clause-state
returns-in-None-clause-state c = λ rules ev.
    c.tear_down.ensures.state rules ev ∙ torn_state_is c.args.switch rules ev c.args.self.now c.args.note c.args.place
    (sym c.in-None.ensures)

pub returns-in-None-clause-answer : goal.returns-in-None-clause-answer
returns-in-None-clause-answer c =
    c.tear_down.ensures.answer ∙ torn_answer c.args.switch c.args.self.now c.args.note c.args.place (sym c.in-None.ensures)
