use Rattle.std.proofs.Common.{◌≡◌, ◌<◌, ◌^◌, List, option_map, sym, subst, ap, ◌∙◌, arith}
use Rattle.tr_io.specs.PortSteps.{dial_step_of}
use Rattle.tr_io.specs.declared.step.Step.{Step}
use Rattle.tr_io.specs.declared.step.Step.TheVariants.{DialOrder}
use Rattle.switch_model.specs.Answers.DialOrder.{dial_order_answer}
use Rattle.switch_model.specs.Legal.{IsDialOrder}
use Rattle.switch_machine.specs.Calls.DialMemory.{dial_order_by}
use Rattle.switch_machine.proofs.DialOrder.Right.{dial_order_right}
use Rattle.switch_machine.proofs.DialOrder.Said.{dial_order_said}
use Rattle.switch_core.specs.Meaning.{start_of}
use Rattle.switch_core.specs.Started.{Started, SwitchAdds, SwitchStands}
use Rattle.switch_core.proofs.Dialled.{dialled_whole, number_fits}
use Rattle.switch_core.proofs.Whole.{started, whole_stays}
use Rattle.switch_core.proofs.switch.Switch.dial_order.Goals as goal

pub dial_order-requires : goal.dial_order-requires
dial_order-requires c =
    let few : c.self.inside.parts.steps < 2 ^ 62 =
    omega (arith, c.requires, ap (λ (s : Started). s.state.steps) c.self.view_is) in
    record {
      steps = few;
      number = number_fits (start_of c.self.inside.name c.self.inside.rules c.self.inside.circuits) c.self.inside.parts
          c.self.inside.relays.items c.self.invariant few;
    }

pub invariant_of-self : goal.invariant_of-self
invariant_of-self c =
    let start = start_of c.self.inside.name c.self.inside.rules c.self.inside.circuits in
    let relays = c.self.inside.relays.items in
    let a = option_map dial_step_of c.dial_order.result in
    whole_stays (started start c.self.inside.parts relays) (started start c.dial_order.new.self relays) (DialOrder a)
    (dialled_whole start c.self.inside.parts c.dial_order.new.self relays a c.dial_order.ensures.state
    c.dial_order.ensures.answer)
    c.self.invariant

pub returns-clause-whole : goal.returns-clause-whole
returns-clause-whole c =
    let start = start_of c.self.inside.name c.self.inside.rules c.self.inside.circuits in
    let relays = c.self.inside.relays.items in
    let new : Started = started start c.dial_order.new.self relays in
    let a = option_map dial_step_of c.dial_order.result in
    subst (λ (old : Started). SwitchAdds old new (DialOrder a)) c.self.view_is
    (dialled_whole start c.self.inside.parts c.dial_order.new.self relays a c.dial_order.ensures.state
    c.dial_order.ensures.answer)

pub returns-clause-steps : goal.returns-clause-steps
unfolding SwitchAdds
returns-clause-steps c = (returns-clause-whole c).steps

pub returns-clause-right : goal.returns-clause-right
returns-clause-right c h st =
    let start = start_of c.self.inside.name c.self.inside.rules c.self.inside.circuits in
    let s : Started = started start c.self.inside.parts c.self.inside.relays.items in
    let a = option_map dial_step_of c.dial_order.result in
    let own : SwitchStands s h = subst (λ (old : Started). SwitchStands old h) (sym c.self.view_is) st in
    subst (λ (old : Started). IsDialOrder old.start.rules h a) c.self.view_is
    (subst (IsDialOrder start.rules h) (sym c.dial_order.ensures.answer) (dial_order_right start c.self.inside.parts h own.state))

pub returns-clause-oldest : goal.returns-clause-oldest
returns-clause-oldest c h st =
    let start = start_of c.self.inside.name c.self.inside.rules c.self.inside.circuits in
    let s : Started = started start c.self.inside.parts c.self.inside.relays.items in
    let a = option_map dial_step_of c.dial_order.result in
    let own : SwitchStands s h = subst (λ (old : Started). SwitchStands old h) (sym c.self.view_is) st in
    subst (λ (old : Started). a ≡ dial_order_answer old.start.rules h) c.self.view_is
    (c.dial_order.ensures.answer ∙ dial_order_said start c.self.inside.parts h own.state
    ∙ ap (dial_order_by start.rules h) c.dial_order.ensures.none_again)
