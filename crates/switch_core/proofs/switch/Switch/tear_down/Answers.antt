use Rattle.std.proofs.Common.{subst}
use Rattle.tr_io.specs.declared.step.Step.TheVariants.{TearDown}
use Rattle.switch_core.specs.Meaning.{start_of}
use Rattle.switch_core.specs.Started.{Started, SwitchAdds}
use Rattle.switch_core.proofs.TearDown.{torn_whole}
use Rattle.switch_core.proofs.Whole.{started, whole_stays}
use Rattle.switch_core.proofs.switch.Switch.tear_down.Goals as goal

pub invariant_of-self : goal.invariant_of-self
invariant_of-self c =
    let start = start_of c.self.inside.name c.self.inside.rules c.self.inside.circuits in
    let after = c.forget_relay.new.relays.items in
    whole_stays (started start c.self.inside.parts c.self.inside.relays.items) (started start c.tear_down-answer.new.self after)
    (TearDown c.args.circ c.args.reason c.tear_down-answer.result)
    (torn_whole start c.self.inside.parts c.tear_down-answer.new.self c.self.inside.relays.items after c.args.circ c.args.reason
    c.tear_down-answer.result c.tear_down-answer.ensures.state c.tear_down-answer.ensures.answer c.forget_relay.ensures)
    c.self.invariant

pub returns-clause-whole : goal.returns-clause-whole
returns-clause-whole c =
    let start = start_of c.self.inside.name c.self.inside.rules c.self.inside.circuits in
    let after = c.forget_relay.new.relays.items in
    let new : Started = started start c.tear_down-answer.new.self after in
    subst (λ (old : Started). SwitchAdds old new (TearDown c.args.circ c.args.reason c.tear_down-answer.result)) c.self.view_is
    (torn_whole start c.self.inside.parts c.tear_down-answer.new.self c.self.inside.relays.items after c.args.circ c.args.reason
    c.tear_down-answer.result c.tear_down-answer.ensures.state c.tear_down-answer.ensures.answer c.forget_relay.ensures)

pub returns-clause-steps : goal.returns-clause-steps
unfolding SwitchAdds
returns-clause-steps c = (returns-clause-whole c).steps
