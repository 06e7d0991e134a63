use Rattle.std.proofs.Common.{◌≡◌, subst}
use Rattle.tr_io.specs.declared.step.Step.TheVariants.{OpenCircuit}
use Rattle.switch_machine.specs.Adds.{OpenCase}
use Rattle.switch_core.specs.Meaning.{start_of}
use Rattle.switch_core.specs.Started.{Started, SwitchAdds}
use Rattle.switch_core.proofs.Whole.{started, opening_whole, opening_goes_on}
use Rattle.switch_core.proofs.switch.Switch.open_circuit.Goals as goal

pub invariant_of-self : goal.invariant_of-self
invariant_of-self c =
    let start = start_of c.self.inside.name c.self.inside.rules c.self.inside.circuits in
    let after = c.open_with_relay.new.relays.items in
    opening_goes_on (started start c.self.inside.parts c.self.inside.relays.items)
    (started start c.open_with_relay.new.parts after) c.args.chan c.args.id c.args.opening.now.reply c.args.opening.now.keys
    c.args.opening.now.pad c.open_with_relay.result
    (opening_whole start c.self.inside.parts c.open_with_relay.new.parts c.self.inside.relays.items after c.args.chan c.args.id
    c.args.opening.now.reply c.args.opening.now.keys c.args.opening.now.pad c.open_with_relay.result
    c.requires.fixed c.requires.command c.open_with_relay.ensures.state c.open_with_relay.ensures.answer
    c.open_with_relay.ensures.relays)
    c.self.invariant

pub returns-clause-whole : goal.returns-clause-whole
returns-clause-whole c =
    let start = start_of c.self.inside.name c.self.inside.rules c.self.inside.circuits in
    let after = c.open_with_relay.new.relays.items in
    let new : Started = started start c.open_with_relay.new.parts after in
    subst (λ (old : Started). OpenCase c.open_with_relay.result (new ≡ old)
    (SwitchAdds old new
    (OpenCircuit c.args.chan c.args.id c.args.opening.now.reply c.args.opening.now.keys c.args.opening.now.pad
    c.open_with_relay.result))) c.self.view_is
    (opening_whole start c.self.inside.parts c.open_with_relay.new.parts c.self.inside.relays.items after c.args.chan c.args.id
    c.args.opening.now.reply c.args.opening.now.keys c.args.opening.now.pad c.open_with_relay.result
    c.requires.fixed c.requires.command c.open_with_relay.ensures.state c.open_with_relay.ensures.answer
    c.open_with_relay.ensures.relays)
