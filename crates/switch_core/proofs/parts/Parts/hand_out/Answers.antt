use Rattle.std.proofs.Common.{◌≡◌, ◌<◌, length, Option, option_map, sym, ap, ◌∙◌, subst, arith}
use Rattle.switch_machine.specs.Calls.DialOrder.{circuit_dialled}
use Rattle.switch_machine.specs.Machine.{counted}
use Rattle.switch_machine.specs.State.{CircuitState, State, slot_at, with_slot}
use Rattle.switch_core.proofs.Dialled.{fits_dialled}
use Rattle.switch_core.proofs.Leaves.{circuit_at, circuit_put}
use Rattle.switch_core.proofs.Taken.{taken_at}
use Rattle.switch_core.proofs.parts.Parts.hand_out.Goals as goal

pub index_mut-slot-requires : goal.index_mut-slot-requires
index_mut-slot-requires c =
    omega (
      arith,
      subst (λ (s : State). c.args.circ < length s.circuits) (sym c.self.view_is) c.requires.inside,
      c.self.inside.circuits.ok,
    )

pub invariant_of-self : goal.invariant_of-self
invariant_of-self c =
    let below : c.args.circ < length c.self.inside.circuits.items =
    subst (λ (s : State). c.args.circ < length s.circuits) (sym c.self.view_is) c.requires.inside in
    fits_dialled c.self.inside.counters c.self.inside.channels.items c.self.inside.circuits.items c.args.circ
    c.index_mut-slot.result.now c.hand_out_of.new.slot c.self.invariant
    (taken_at c.self.inside.counters.steps c.self.inside.circuits.items c.args.circ c.index_mut-slot.result.now
    c.self.invariant.taken below c.index_mut-slot.ensures.value) c.hand_out_of.ensures

pub returns : goal.returns
returns c =
    let live : slot_at c.args.self.now.circuits c.args.circ ≡ c.index_mut-slot.result.now =
    circuit_at _ _ _ c.args.self.now c.args.circ c.index_mut-slot.result.now c.self.view_is c.requires.inside
    ∙ sym c.index_mut-slot.ensures.value in
    ap counted (circuit_put c.self.inside.counters c.self.inside.channels.items c.self.inside.circuits.items c.args.self.now
    c.args.circ c.hand_out_of.new.slot c.self.view_is)
    ∙ ap (λ (x : Option CircuitState). record (counted c.args.self.now) {
      circuits =
          with_slot c.args.self.now.circuits c.args.circ x;
    })
    (c.hand_out_of.ensures ∙ ap (option_map circuit_dialled) (sym live))
