use Rattle.std.proofs.Common.{◌<◌, ◌≤◌, length, Option, sym, ap, subst, ◌∙◌, arith}
use Rattle.switch_machine.specs.State.{CircuitState, slot_at}
use Rattle.switch_core.specs.Returning.{bodies_out, IsBodyDifference}
use Rattle.switch_core.proofs.Gone.{slot-get}
use Rattle.switch_core.proofs.TearDown.{out_far}
use Rattle.switch_core.proofs.parts.Parts.different_body.Goals as goal

pub returns-then-note-len : goal.returns-then-note-len
returns-then-note-len c =
    let far : length c.self.inside.circuits.items ≤ c.args.note.circ.0 =
    omega (arith, c.len.ensures, c.if-note-len.true, c.self.inside.circuits.ok) in
    subst (λ (x : Option CircuitState). IsBodyDifference (bodies_out x c.args.note.dir) c.args.bodies.now
    c.difference_from_none.result)
    (sym (out_far _ _ c.self.inside.circuits.items c.args.self.now c.args.note.circ.0 c.self.view_is far))
    c.difference_from_none.ensures

pub returns : goal.returns
returns c =
    let below : c.args.note.circ.0 < length c.self.inside.circuits.items =
    omega (arith, c.len.ensures, c.if-note-len.false, c.self.inside.circuits.ok) in
    subst (λ (x : Option CircuitState). IsBodyDifference (bodies_out x c.args.note.dir) c.args.bodies.now
    c.slot_difference.result)
    (c.index-slot.ensures ∙ sym (slot-get c.self.inside.circuits.items c.args.note.circ.0 c.index-slot.result.now below)
    ∙ ap (λ s. slot_at s.circuits c.args.note.circ.0) c.self.view_is)
    c.slot_difference.ensures
