use Rattle.std.proofs.Common.{◌≡◌, subst}
use Rattle.tr_io.specs.declared.step.Step.TheVariants.{Take}
use Rattle.switch_core.specs.Meaning.{start_of}
use Rattle.switch_core.specs.Started.{Started, SwitchAdds}
use Rattle.switch_core.specs.Taking.{TakeCase}
use Rattle.switch_core.proofs.Steps.{take_case, take_goes_on, take_steps}
use Rattle.switch_core.proofs.Whole.{started}
use Rattle.switch_core.proofs.switch.Switch.take.Goals as goal

pub invariant_of-self : goal.invariant_of-self
invariant_of-self c =
    let start = start_of c.self.inside.name c.self.inside.rules c.self.inside.circuits in
    let after = c.forget_taken.new.relays.items in
    take_goes_on (started start c.self.inside.parts c.self.inside.relays.items) (started start c.take-answer.new.self after)
    c.args.chan c.args.cell.now c.take-answer.result
    (take_case start c.self.inside.parts c.take-answer.new.self c.self.inside.relays.items after c.args.chan c.args.cell.now
    c.take-answer.result c.requires.formed c.take-answer.ensures.state c.take-answer.ensures.answer c.take-answer.ensures.leg
    c.forget_taken.ensures)
    c.self.invariant

pub returns-clause-whole : goal.returns-clause-whole
returns-clause-whole c =
    let start = start_of c.self.inside.name c.self.inside.rules c.self.inside.circuits in
    let after = c.forget_taken.new.relays.items in
    let new : Started = started start c.take-answer.new.self after in
    subst (λ (old : Started). TakeCase c.take-answer.result (new ≡ old)
    (SwitchAdds old new (Take c.args.chan c.args.cell.now c.take-answer.result))) c.self.view_is
    (take_case start c.self.inside.parts c.take-answer.new.self c.self.inside.relays.items after c.args.chan c.args.cell.now
    c.take-answer.result c.requires.formed c.take-answer.ensures.state c.take-answer.ensures.answer c.take-answer.ensures.leg
    c.forget_taken.ensures)

pub returns-clause-steps : goal.returns-clause-steps
returns-clause-steps c = take_steps _ _ c.args.chan c.args.cell.now c.take-answer.result (returns-clause-whole c)
