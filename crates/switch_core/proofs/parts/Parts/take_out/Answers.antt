use Rattle.std.proofs.Common.{◌<◌, ◌≤◌, length, refl, arith}
use Rattle.switch_core.proofs.Taken.{fits_without}
use Rattle.switch_core.proofs.TearDown.{out_far, out_some, out_none}
use Rattle.switch_core.proofs.parts.Parts.take_out.Goals as goal

pub returns-then-circ-len-clause-none : goal.returns-then-circ-len-clause-none
returns-then-circ-len-clause-none c =
    let far : length c.self.inside.circuits.items ≤ c.args.circ.0 =
    omega (arith, c.len.ensures, c.if-circ-len.true, c.self.inside.circuits.ok) in
    (out_far _ _ c.self.inside.circuits.items c.args.self.now c.args.circ.0 c.self.view_is far, refl)

pub returns-clause-some : goal.returns-clause-some
returns-clause-some c =
    let below : c.args.circ.0 < length c.self.inside.circuits.items =
    omega (arith, c.len.ensures, c.if-circ-len.false, c.self.inside.circuits.ok) in
    out_some c.self.inside.counters c.self.inside.channels.items c.self.inside.circuits.items c.args.self.now c.args.circ.0
    c.index_mut-slot.result.now c.take.result c.take.new.self
    c.self.view_is below c.index_mut-slot.ensures.value c.take.ensures.value c.take.ensures.after

pub returns-clause-none : goal.returns-clause-none
returns-clause-none c =
    let below : c.args.circ.0 < length c.self.inside.circuits.items =
    omega (arith, c.len.ensures, c.if-circ-len.false, c.self.inside.circuits.ok) in
    out_none c.self.inside.counters c.self.inside.channels.items c.self.inside.circuits.items c.args.self.now c.args.circ.0
    c.index_mut-slot.result.now c.take.result c.take.new.self
    c.self.view_is below c.index_mut-slot.ensures.value c.take.ensures.value c.take.ensures.after

pub invariant_of-self : goal.invariant_of-self
invariant_of-self c =
    fits_without c.self.inside.counters c.self.inside.channels.items c.self.inside.circuits.items c.args.circ.0 c.take.new.self
    c.self.invariant c.take.ensures.after
