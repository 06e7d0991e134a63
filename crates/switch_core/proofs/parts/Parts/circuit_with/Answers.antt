use Rattle.std.proofs.Common.{◌≡◌, ◌<◌, length, Option, sym, subst, arith}
use Rattle.switch_machine.specs.State.{CircuitState, State, slot_at}
use Rattle.switch_core.specs.Picking.{HasOneLeg}
use Rattle.switch_core.proofs.Leaves.{circuit_read}
use Rattle.switch_core.proofs.Finding.{one_further, first_with}
use Rattle.switch_core.proofs.parts.Parts.circuit_with.Goals as goal

pub returns-then-slot_has_port-clause-leg : goal.returns-then-slot_has_port-clause-leg
returns-then-slot_has_port-clause-leg c =
    let slot : Option CircuitState = c.index-slot.result.now in
    let below : c.loop-number.number < length c.self.inside.circuits.items =
    omega (arith, c.len-number-end.ensures, c.loop-number-test.true, c.self.inside.circuits.ok) in
    let live : slot_at c.args.self.now.circuits c.loop-number.number ≡ slot =
    circuit_read _ _ c.self.inside.circuits.items c.args.self.now c.loop-number.number slot c.self.view_is below
    c.index-slot.ensures in
    let inside : c.loop-number.number < length c.args.self.now.circuits =
    subst (λ (s : State). c.loop-number.number < length s.circuits) c.self.view_is below in
    first_with c.args.self.now c.args.chan.0 c.args.id c.loop-number.number slot c.slot_has_port.result live
    c.slot_has_port.ensures.one_leg c.slot_has_port.ensures.port c.if-slot_has_port.true c.loop-number.invariant inside

pub returns-then-slot_has_port-clause-one_leg : goal.returns-then-slot_has_port-clause-one_leg
returns-then-slot_has_port-clause-one_leg c =
    let slot : Option CircuitState = c.index-slot.result.now in
    let below : c.loop-number.number < length c.self.inside.circuits.items =
    omega (arith, c.len-number-end.ensures, c.loop-number-test.true, c.self.inside.circuits.ok) in
    let live : slot_at c.args.self.now.circuits c.loop-number.number ≡ slot =
    circuit_read _ _ c.self.inside.circuits.items c.args.self.now c.loop-number.number slot c.self.view_is below
    c.index-slot.ensures in
    subst HasOneLeg (sym live) c.slot_has_port.ensures.one_leg

pub loop-number-preserved : goal.loop-number-preserved
loop-number-preserved c =
    let slot : Option CircuitState = c.index-slot.result.now in
    let below : c.loop-number.number < length c.self.inside.circuits.items =
    omega (arith, c.len-number-end.ensures, c.loop-number-test.true, c.self.inside.circuits.ok) in
    let live : slot_at c.args.self.now.circuits c.loop-number.number ≡ slot =
    circuit_read _ _ c.self.inside.circuits.items c.args.self.now c.loop-number.number slot c.self.view_is below
    c.index-slot.ensures in
    one_further c.args.self.now c.args.chan.0 c.args.id c.loop-number.number slot c.slot_has_port.result live
    c.slot_has_port.ensures.one_leg c.slot_has_port.ensures.port c.if-slot_has_port.false c.loop-number.invariant
