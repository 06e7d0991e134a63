use Rattle.std.proofs.Common.{subst}
use Rattle.tr_io.specs.declared.step.Step.TheVariants.{NextCell}
use Rattle.switch_core.specs.Meaning.{start_of}
use Rattle.switch_core.specs.Started.{Started, SwitchAdds}
use Rattle.switch_core.proofs.Whole.{started, next_whole, whole_stays}
use Rattle.switch_core.proofs.switch.Switch.next_cell.Goals as goal

pub invariant_of-self : goal.invariant_of-self
invariant_of-self c =
    let start = start_of c.self.inside.name c.self.inside.rules c.self.inside.circuits in
    whole_stays (started start c.self.inside.parts c.self.inside.relays.items)
    (started start c.next_cell.new.self c.self.inside.relays.items) (NextCell c.args.chan c.args.tick c.next_cell.result)
    (next_whole start c.self.inside.parts c.next_cell.new.self c.self.inside.relays.items c.args.chan c.args.tick
    c.next_cell.result c.next_cell.ensures.state c.next_cell.ensures.answer)
    c.self.invariant

pub returns-clause-whole : goal.returns-clause-whole
returns-clause-whole c =
    let start = start_of c.self.inside.name c.self.inside.rules c.self.inside.circuits in
    let new : Started = started start c.next_cell.new.self c.self.inside.relays.items in
    subst (λ (old : Started). SwitchAdds old new (NextCell c.args.chan c.args.tick c.next_cell.result)) c.self.view_is
    (next_whole start c.self.inside.parts c.next_cell.new.self c.self.inside.relays.items c.args.chan c.args.tick
    c.next_cell.result c.next_cell.ensures.state c.next_cell.ensures.answer)
