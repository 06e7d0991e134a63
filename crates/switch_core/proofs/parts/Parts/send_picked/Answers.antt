use Rattle.std.proofs.Common.{◌≡◌, ◌<◌, length, max, Option, sym, ap, subst, ◌∙◌}
use Rattle.switch_machine.specs.State.{CircuitState, State, slot_at}
use Rattle.switch_machine.specs.Calls.NextCell.{picked_leg}
use Rattle.switch_core.specs.Picking.{SlotSent}
use Rattle.switch_core.proofs.Taken.{fits_circuit, sent_fits, taken_at}
use Rattle.switch_core.proofs.Leaves.{circuit_at, circuit_put, picked_sent, picked_cell}
use Rattle.switch_core.proofs.parts.Parts.send_picked.Goals as goal

pub returns-clause-state : goal.returns-clause-state
returns-clause-state c =
    let old : Option CircuitState = c.index_mut-slot.result.now in
    let live : slot_at c.args.self.now.circuits c.in_ok-picked.picked.number ≡ old =
    circuit_at _ _ _ c.args.self.now c.in_ok-picked.picked.number old c.self.view_is c.in_ok-picked.ensures.waits.inside
    ∙ sym c.index_mut-slot.ensures.value in
    let now : c.max-now.result ≡ max c.args.self.now.tick c.args.new_tick =
    c.max-now.ensures ∙ ap (λ (s : State). max s.tick c.args.new_tick) c.self.view_is in
    picked_sent c.args.self.now _ (max c.args.self.now.tick c.args.new_tick) c.in_ok-picked.picked.number
    (picked_leg c.args.self.now c.args.chan.0 c.args.new_tick) old c.send_first_of.new.slot
    c.in_ok-picked.ensures.same live
    (subst (λ m. SlotSent m old c.send_first_of.new.slot) now c.send_first_of.ensures.state)
    (circuit_put _ _ _ c.args.self.now c.in_ok-picked.picked.number c.send_first_of.new.slot c.self.view_is)

pub returns-clause-answer : goal.returns-clause-answer
returns-clause-answer c =
    let old : Option CircuitState = c.index_mut-slot.result.now in
    c.send_first_of.ensures.cell
    ∙ picked_cell c.args.self.now c.in_ok-picked.picked.number (picked_leg c.args.self.now c.args.chan.0 c.args.new_tick) old
    c.in_ok-picked.ensures.same
    (circuit_at _ _ _ c.args.self.now c.in_ok-picked.picked.number old c.self.view_is c.in_ok-picked.ensures.waits.inside
    ∙ sym c.index_mut-slot.ensures.value)

pub invariant_of-self : goal.invariant_of-self
invariant_of-self c =
    let below : c.in_ok-picked.picked.number < length c.self.inside.circuits.items =
    subst (λ (s : State). c.in_ok-picked.picked.number < length s.circuits) (sym c.self.view_is)
    c.in_ok-picked.ensures.waits.inside in
    fits_circuit c.self.inside.counters c.self.inside.channels.items c.self.inside.circuits.items c.in_ok-picked.picked.number
    c.send_first_of.new.slot c.self.invariant
    (sent_fits c.self.inside.counters.steps c.max-now.result c.index_mut-slot.result.now c.send_first_of.new.slot
    c.send_first_of.ensures.state
    (taken_at c.self.inside.counters.steps c.self.inside.circuits.items c.in_ok-picked.picked.number c.index_mut-slot.result.now
    c.self.invariant.taken below c.index_mut-slot.ensures.value))
