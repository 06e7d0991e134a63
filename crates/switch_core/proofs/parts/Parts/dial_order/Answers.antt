use Rattle.std.proofs.Common.{◌≡◌, ◌∙◌}
use Rattle.tr_io.specs.PortSteps.{dial_step_of}
use Rattle.switch_core.specs.Dialling.{open_of}
use Rattle.switch_core.proofs.Dialled.{none_answered, none_dialled, number_of, one_answered, one_dialled}
use Rattle.switch_core.proofs.parts.Parts.dial_order.Goals as goal

pub order_of-order-requires : goal.order_of-order-requires
order_of-order-requires c = number_of c.args.self.now c.in-Some.dial c.in-Some.ensures.oldest c.requires.number

pub returns-in-Some-clause-state : goal.returns-in-Some-clause-state
returns-in-Some-clause-state c =
    c.hand_out.ensures ∙ one_dialled c.args.self.now (open_of c.in-Some.dial) c.in-Some.ensures.none_again
    c.in-Some.ensures.oldest

pub returns-in-Some-clause-answer : goal.returns-in-Some-clause-answer
returns-in-Some-clause-answer c =
    one_answered c.args.self.now (open_of c.in-Some.dial) (dial_step_of c.order_of-order.result) c.in-Some.ensures.none_again
    c.in-Some.ensures.oldest c.order_of-order.ensures

pub returns-in-None-clause-state : goal.returns-in-None-clause-state
returns-in-None-clause-state c =
    c.give_nothing.ensures ∙ none_dialled c.args.self.now c.in-None.ensures.none_again c.in-None.ensures.oldest

pub returns-in-None-clause-answer : goal.returns-in-None-clause-answer
returns-in-None-clause-answer c = none_answered c.args.self.now c.in-None.ensures.none_again c.in-None.ensures.oldest
