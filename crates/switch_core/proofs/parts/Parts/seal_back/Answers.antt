use Rattle.std.proofs.Common.{◌≡◌, ◌<◌, ◌≤◌, length, is_some, Option, IfSome, option_map, sym, ap, ◌∙◌, subst, arith}
use Rattle.std.specs.Prelude.{IsTrue}
use Rattle.switch_machine.specs.Calls.Take.{kept_length}
use Rattle.switch_machine.specs.Machine.{counted}
use Rattle.switch_machine.specs.State.{CircuitState, State, with_slot}
use Rattle.switch_core.specs.Sealing.{sealed_cells_of, with_sealed}
use Rattle.switch_core.proofs.Leaves.{circuit_put}
use Rattle.switch_core.proofs.Seals.{fits_sealed}
use Rattle.switch_core.proofs.Settled.{is_inside, live_slot}
use Rattle.switch_core.proofs.Taken.{taken_at}
use Rattle.switch_core.proofs.parts.Parts.seal_back.Goals as goal

pub index_mut-slot-requires : goal.index_mut-slot-requires
index_mut-slot-requires c =
    let inside : c.args.circ.0 < length c.args.self.now.circuits =
    is_inside c.args.self.now.circuits c.args.circ.0 c.requires.live in
    omega (arith, subst (λ (s : State). c.args.circ.0 < length s.circuits) (sym c.self.view_is) inside, c.self.inside.circuits.ok)

pub seal_back_of-requires-clause-live : goal.seal_back_of-requires-clause-live
seal_back_of-requires-clause-live c =
    subst (λ (x : Option CircuitState). IsTrue (is_some x))
    (live_slot c.self.inside.counters c.self.inside.channels.items c.self.inside.circuits.items c.args.self.now c.args.circ.0
    c.index_mut-slot.result.now c.self.view_is c.requires.live c.index_mut-slot.ensures.value) c.requires.live

pub seal_back_of-requires-clause-count : goal.seal_back_of-requires-clause-count
seal_back_of-requires-clause-count c =
    subst (λ (x : Option CircuitState). IfSome x (λ y. length c.args.sealed.now ≡ kept_length y.back.claim_out))
    (live_slot c.self.inside.counters c.self.inside.channels.items c.self.inside.circuits.items c.args.self.now c.args.circ.0
    c.index_mut-slot.result.now c.self.view_is c.requires.live c.index_mut-slot.ensures.value) c.requires.count

pub seal_back_of-requires-clause-out : goal.seal_back_of-requires-clause-out
seal_back_of-requires-clause-out c =
    subst (λ (x : Option CircuitState). IfSome x (λ y. kept_length y.back.claim_out ≤ y.back.claimed_count))
    (live_slot c.self.inside.counters c.self.inside.channels.items c.self.inside.circuits.items c.args.self.now c.args.circ.0
    c.index_mut-slot.result.now c.self.view_is c.requires.live c.index_mut-slot.ensures.value) c.requires.out

pub invariant_of-self : goal.invariant_of-self
invariant_of-self c =
    let below : c.args.circ.0 < length c.self.inside.circuits.items =
    subst (λ (s : State). c.args.circ.0 < length s.circuits) (sym c.self.view_is)
    (is_inside c.args.self.now.circuits c.args.circ.0 c.requires.live) in
    fits_sealed c.self.inside.counters c.self.inside.channels.items c.self.inside.circuits.items c.args.circ.0
    (sealed_cells_of c.args.sealed.now) c.index_mut-slot.result.now c.seal_back_of.new.slot c.self.invariant
    (taken_at c.self.inside.counters.steps c.self.inside.circuits.items c.args.circ.0 c.index_mut-slot.result.now
    c.self.invariant.taken below c.index_mut-slot.ensures.value) c.seal_back_of.ensures

pub returns : goal.returns
returns c =
    let slot = live_slot c.self.inside.counters c.self.inside.channels.items c.self.inside.circuits.items c.args.self.now
    c.args.circ.0 c.index_mut-slot.result.now c.self.view_is c.requires.live c.index_mut-slot.ensures.value in
    ap counted (circuit_put c.self.inside.counters c.self.inside.channels.items c.self.inside.circuits.items c.args.self.now
    c.args.circ.0 c.seal_back_of.new.slot c.self.view_is)
    ∙ ap (λ (x : Option CircuitState). record (counted c.args.self.now) {
      circuits =
          with_slot c.args.self.now.circuits c.args.circ.0 x;
    })
    (c.seal_back_of.ensures ∙ ap (option_map (with_sealed (sealed_cells_of c.args.sealed.now))) (sym slot))
