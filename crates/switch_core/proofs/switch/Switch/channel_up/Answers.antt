use Rattle.std.proofs.Common.{◌≡◌, subst}
use Rattle.tr_io.specs.declared.step.Step.TheVariants.{ChannelUp}
use Rattle.switch_machine.specs.Adds.{UpCase}
use Rattle.switch_core.specs.Meaning.{start_of}
use Rattle.switch_core.specs.Started.{Started, SwitchAdds}
use Rattle.switch_core.proofs.Whole.{started, up_whole, up_goes_on}
use Rattle.switch_core.proofs.switch.Switch.channel_up.Goals as goal

pub invariant_of-self : goal.invariant_of-self
invariant_of-self c =
    let start = start_of c.self.inside.name c.self.inside.rules c.self.inside.circuits in
    up_goes_on (started start c.self.inside.parts c.self.inside.relays.items)
    (started start c.channel_up.new.self c.self.inside.relays.items) c.args.slot c.args.side c.channel_up.result
    (up_whole start c.self.inside.parts c.channel_up.new.self c.self.inside.relays.items c.args.slot c.args.side
    c.channel_up.result c.channel_up.ensures.state c.channel_up.ensures.answer)
    c.self.invariant

pub returns-clause-whole : goal.returns-clause-whole
returns-clause-whole c =
    let start = start_of c.self.inside.name c.self.inside.rules c.self.inside.circuits in
    let new : Started = started start c.channel_up.new.self c.self.inside.relays.items in
    subst (λ (old : Started). UpCase c.channel_up.result (new ≡ old)
    (SwitchAdds old new (ChannelUp c.args.slot c.args.side c.channel_up.result))) c.self.view_is
    (up_whole start c.self.inside.parts c.channel_up.new.self c.self.inside.relays.items c.args.slot c.args.side
    c.channel_up.result c.channel_up.ensures.state c.channel_up.ensures.answer)
