use Rattle.std.proofs.Common.{subst, ◌≤◌, length, arith}
use Rattle.switch_machine.specs.State.{CircuitState}
use Rattle.switch_core.specs.Meaning.{circuit_of}
use Rattle.switch_core.specs.Picking.{FirstSent}
use Rattle.switch_core.proofs.Leaves.{first_sent, fewer_wait}
use Rattle.switch_core.proofs.circuit.Circuit.send_first.Goals as goal

pub returns-clause-state : goal.returns-clause-state
returns-clause-state c =
    subst (λ (x : CircuitState). FirstSent c.args.now x
    (circuit_of c.send_first.new.self.state c.self.inside.forth.state c.self.inside.back.state c.self.inside.orders.state))
    c.self.view_is
    (first_sent c.self.inside.forth.state c.self.inside.back.state c.self.inside.orders.state c.self.inside.leg.state
    c.send_first.new.self.state c.args.now c.self.invariant.queued c.send_first.ensures.state)

pub invariant_of-self : goal.invariant_of-self
invariant_of-self c =
    let fewer : length c.send_first.new.self.state.queue ≤ length c.self.inside.leg.state.queue =
    fewer_wait c.self.inside.leg.state c.send_first.new.self.state c.args.now c.send_first.ensures.state in
    record {
      queued = omega (arith, c.self.invariant.queued, fewer);
      packaged = c.self.invariant.packaged;
      room_sealed = omega (arith, c.self.invariant.room_sealed, c.send_first.ensures.spare);
      room_packaged = c.self.invariant.room_packaged;
      room_ordered = c.self.invariant.room_ordered;
      rooms = c.self.invariant.rooms;
    }
