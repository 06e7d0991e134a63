use Rattle.std.proofs.Common.{refl, sym, subst}
use Rattle.tr_io.specs.declared.answers.BackAnswer.{BackAnswer}
use Rattle.tr_io.specs.declared.step.Step.TheVariants.{GiveBack}
use Rattle.switch_core.specs.Meaning.{start_of}
use Rattle.switch_core.specs.Returning.{OfPlace}
use Rattle.switch_core.specs.Started.{Started, SwitchAdds}
use Rattle.switch_core.proofs.GivenBack.{refused_whole}
use Rattle.switch_core.proofs.GivenSteps.{back_given, forth_case, forth_given, of_done}
use Rattle.switch_core.proofs.Whole.{started, whole_stays}
use Rattle.switch_core.proofs.switch.Switch.give_back.Goals as goal

pub invariant_of-self : goal.invariant_of-self
invariant_of-self c =
    let start = start_of c.self.inside.name c.self.inside.rules c.self.inside.circuits in
    let note = c.apart-start.result.note in
    let place = c.first_difference-place.result in
    whole_stays (started start c.self.inside.parts c.self.inside.relays.items)
    (started start c.refuse_return.new.self c.self.inside.relays.items) (GiveBack note place c.in-Some.answer)
    (refused_whole start c.self.inside.parts c.refuse_return.new.self c.self.inside.relays.items note place c.in-Some.answer
    (sym c.in-Some.ensures.answer) c.in-Some.ensures.state) c.self.invariant

pub returns-in-Some-clause-whole : goal.returns-in-Some-clause-whole
returns-in-Some-clause-whole c =
    let start = start_of c.self.inside.name c.self.inside.rules c.self.inside.circuits in
    let old : Started = started start c.self.inside.parts c.self.inside.relays.items in
    let new : Started = started start c.refuse_return.new.self c.self.inside.relays.items in
    let a = c.in-Some.answer in
    subst (λ (s : Started). OfPlace s c.args.done.note c.args.done.start c.args.done.input.items
    (λ p. SwitchAdds s new (GiveBack c.args.done.note p a))) c.self.view_is
    (of_done old c.args.done c.apart-start.result c.self.inside.relays.items c.as_slice.result.now c.first_difference-place.result
    (λ note p. SwitchAdds old new (GiveBack note p a)) c.apart-start.ensures.parts refl c.as_slice.ensures
    c.first_difference-place.ensures
    (refused_whole start c.self.inside.parts c.refuse_return.new.self c.self.inside.relays.items c.apart-start.result.note
    c.first_difference-place.result a (sym c.in-Some.ensures.answer) c.in-Some.ensures.state))

pub invariant_of-self-in-Forth : goal.invariant_of-self-in-Forth
invariant_of-self-in-Forth c =
    let start = start_of c.self.inside.name c.self.inside.rules c.self.inside.circuits in
    let done = c.apart-start.result in
    let place = c.first_difference-place.result in
    let a = c.settle_home.result in
    whole_stays (started start c.self.inside.parts c.self.inside.relays.items)
    (started start c.settle_home.new.parts c.settle_home.new.relays.items) (GiveBack done.note place a)
    (forth_given start c.self.inside.parts c.refuse_return.new.self c.settle_home.new.parts c.self.inside.relays.items
    c.settle_home.new.relays.items done c.as_slice.result.now c.as_slice-in-Forth.result.now place a
    c.self.invariant c.apart-start.ensures.done c.apart-start.ensures.many c.as_slice.ensures c.first_difference-place.ensures
    (sym c.in_default.ensures.answer) c.in_default.ensures.state c.in-Forth.is c.as_slice-in-Forth.ensures
    c.settle_home.ensures.home)
    c.self.invariant

pub returns-in-Forth-clause-whole : goal.returns-in-Forth-clause-whole
returns-in-Forth-clause-whole c =
    let start = start_of c.self.inside.name c.self.inside.rules c.self.inside.circuits in
    let old : Started = started start c.self.inside.parts c.self.inside.relays.items in
    let new : Started = started start c.settle_home.new.parts c.settle_home.new.relays.items in
    let done = c.apart-start.result in
    let place = c.first_difference-place.result in
    let a = c.settle_home.result in
    subst (λ (s : Started). OfPlace s c.args.done.note c.args.done.start c.args.done.input.items
    (λ p. SwitchAdds s new (GiveBack c.args.done.note p a))) c.self.view_is
    (of_done old c.args.done done c.self.inside.relays.items c.as_slice.result.now place
    (λ note p. SwitchAdds old new (GiveBack note p a)) c.apart-start.ensures.parts refl c.as_slice.ensures
    c.first_difference-place.ensures
    (forth_given start c.self.inside.parts c.refuse_return.new.self c.settle_home.new.parts c.self.inside.relays.items
    c.settle_home.new.relays.items done c.as_slice.result.now c.as_slice-in-Forth.result.now place a
    c.self.invariant c.apart-start.ensures.done c.apart-start.ensures.many c.as_slice.ensures c.first_difference-place.ensures
    (sym c.in_default.ensures.answer) c.in_default.ensures.state c.in-Forth.is c.as_slice-in-Forth.ensures
    c.settle_home.ensures.home))

pub returns-in-Forth-clause-refused : goal.returns-in-Forth-clause-refused
returns-in-Forth-clause-refused c =
    let start = start_of c.self.inside.name c.self.inside.rules c.self.inside.circuits in
    forth_case start c.self.inside.parts c.refuse_return.new.self c.settle_home.new.parts c.self.inside.relays.items
    c.settle_home.new.relays.items c.apart-start.result c.as_slice.result.now c.as_slice-in-Forth.result.now
    c.first_difference-place.result c.settle_home.result _
    c.self.invariant c.apart-start.ensures.done c.apart-start.ensures.many c.as_slice.ensures c.first_difference-place.ensures
    (sym c.in_default.ensures.answer) c.in_default.ensures.state c.in-Forth.is c.as_slice-in-Forth.ensures
    c.settle_home.ensures.home

pub invariant_of-self-in-Back : goal.invariant_of-self-in-Back
invariant_of-self-in-Back c =
    let start = start_of c.self.inside.name c.self.inside.rules c.self.inside.circuits in
    let done = c.apart-start.result in
    let place = c.first_difference-place.result in
    whole_stays (started start c.self.inside.parts c.self.inside.relays.items)
    (started start c.seal_home.new.parts c.seal_home.new.relays.items) (GiveBack done.note place BackAnswer.Settled)
    (back_given start c.self.inside.parts c.refuse_return.new.self c.seal_home.new.parts c.self.inside.relays.items
    c.seal_home.new.relays.items done c.as_slice.result.now c.as_slice-in-Back.result.now place
    c.self.invariant c.apart-start.ensures.done c.apart-start.ensures.many c.as_slice.ensures c.first_difference-place.ensures
    (sym c.in_default.ensures.answer) c.in_default.ensures.state c.in-Back.is c.as_slice-in-Back.ensures
    c.seal_home.ensures.home)
    c.self.invariant

pub returns-clause-whole : goal.returns-clause-whole
returns-clause-whole c =
    let start = start_of c.self.inside.name c.self.inside.rules c.self.inside.circuits in
    let old : Started = started start c.self.inside.parts c.self.inside.relays.items in
    let new : Started = started start c.seal_home.new.parts c.seal_home.new.relays.items in
    let done = c.apart-start.result in
    let place = c.first_difference-place.result in
    subst (λ (s : Started). OfPlace s c.args.done.note c.args.done.start c.args.done.input.items
    (λ p. SwitchAdds s new (GiveBack c.args.done.note p BackAnswer.Settled))) c.self.view_is
    (of_done old c.args.done done c.self.inside.relays.items c.as_slice.result.now place
    (λ note p. SwitchAdds old new (GiveBack note p BackAnswer.Settled)) c.apart-start.ensures.parts refl c.as_slice.ensures
    c.first_difference-place.ensures
    (back_given start c.self.inside.parts c.refuse_return.new.self c.seal_home.new.parts c.self.inside.relays.items
    c.seal_home.new.relays.items done c.as_slice.result.now c.as_slice-in-Back.result.now place
    c.self.invariant c.apart-start.ensures.done c.apart-start.ensures.many c.as_slice.ensures c.first_difference-place.ensures
    (sym c.in_default.ensures.answer) c.in_default.ensures.state c.in-Back.is c.as_slice-in-Back.ensures
    c.seal_home.ensures.home))
