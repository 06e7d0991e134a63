use Rattle.std.proofs.Common.{◌≡◌, refl, subst}
use Rattle.tr_io.specs.declared.step.Step.TheVariants.{Abandon}
use Rattle.switch_machine.specs.Machine.{counted}
use Rattle.switch_core.specs.Meaning.{start_of}
use Rattle.switch_core.specs.Returning.{OfPlace, RefusedCase}
use Rattle.switch_core.specs.Started.{Started, SwitchAdds}
use Rattle.switch_core.proofs.Returns.{refused_leaves}
use Rattle.switch_core.proofs.HomeReturns.{of_place}
use Rattle.switch_core.proofs.Steps.{abandon_whole}
use Rattle.switch_core.proofs.Whole.{started, whole_stays}
use Rattle.switch_core.proofs.switch.Switch.abandon.Goals as goal

pub invariant_of-self : goal.invariant_of-self
invariant_of-self c =
    let start = start_of c.self.inside.name c.self.inside.rules c.self.inside.circuits in
    let after = c.forget_torn.new.relays.items in
    let note = c.apart-cipher.result.note in
    let place = c.first_difference-place.result in
    whole_stays (started start c.self.inside.parts c.self.inside.relays.items) (started start c.abandon-answer.new.self after)
    (Abandon note place c.abandon-answer.result)
    (abandon_whole start c.self.inside.parts c.abandon-answer.new.self c.self.inside.relays.items after note place
    c.abandon-answer.result c.abandon-answer.ensures.state c.abandon-answer.ensures.answer c.forget_torn.ensures)
    c.self.invariant

pub returns-clause-whole : goal.returns-clause-whole
returns-clause-whole c =
    let start = start_of c.self.inside.name c.self.inside.rules c.self.inside.circuits in
    let after = c.forget_torn.new.relays.items in
    let new : Started = started start c.abandon-answer.new.self after in
    let place = c.first_difference-place.result in
    let a = c.abandon-answer.result in
    subst (λ (old : Started). OfPlace old c.args.job.note c.args.job.cipher c.args.job.bodies.items
    (λ p. SwitchAdds old new (Abandon c.args.job.note p a))) c.self.view_is
    (of_place (started start c.self.inside.parts c.self.inside.relays.items) c.args.job c.apart-cipher.result
    c.self.inside.relays.items c.as_slice.result.now place
    (λ note p. SwitchAdds (started start c.self.inside.parts c.self.inside.relays.items) new (Abandon note p a))
    c.apart-cipher.ensures.parts refl c.as_slice.ensures c.first_difference-place.ensures
    (abandon_whole start c.self.inside.parts c.abandon-answer.new.self c.self.inside.relays.items after c.apart-cipher.result.note
    place a c.abandon-answer.ensures.state c.abandon-answer.ensures.answer c.forget_torn.ensures))

pub returns-clause-steps : goal.returns-clause-steps
unfolding SwitchAdds
returns-clause-steps c = (returns-clause-whole c).fact.steps

pub returns-clause-refused : goal.returns-clause-refused
returns-clause-refused c =
    let start = start_of c.self.inside.name c.self.inside.rules c.self.inside.circuits in
    let after = c.forget_torn.new.relays.items in
    let new : Started = started start c.abandon-answer.new.self after in
    subst (λ (old : Started). RefusedCase c.abandon-answer.result (new ≡ record old { state = counted old.state })) c.self.view_is
    (refused_leaves start c.self.inside.parts c.abandon-answer.new.self c.self.inside.relays.items after
    c.apart-cipher.result.note c.first_difference-place.result c.abandon-answer.result
    c.abandon-answer.ensures.state c.abandon-answer.ensures.answer c.forget_torn.ensures)
