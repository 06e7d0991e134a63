use Rattle.std.proofs.Common.{◌≡◌, ◌<◌, ◌≤◌, length, Option, IfSome, ap, sym, subst, ◌∙◌, arith}
use Rattle.switch_machine.specs.State.{CircuitState, State, slot_at}
use Rattle.switch_core.specs.Claiming.{MayClaim}
use Rattle.switch_core.proofs.Claimed.{claim_put, fits_claimed, forth_fits}
use Rattle.switch_core.proofs.Leaves.{circuit_at, inside}
use Rattle.switch_core.proofs.Taken.{fits_circuit, taken_at, taken_count}
use Rattle.switch_core.proofs.parts.Parts.give_out.Goals as goal

pub give_out_of-requires : goal.give_out_of-requires
give_out_of-requires c =
    let here : c.args.note.circ.0 < length c.args.self.now.circuits =
    inside c.args.self.now.circuits c.args.note.circ.0 c.requires.claim.circuit c.requires.claim.live in
    let below : c.args.note.circ.0 < length c.self.inside.circuits.items =
    subst (λ (s : State). c.args.note.circ.0 < length s.circuits) (sym c.self.view_is) here in
    let live : slot_at c.args.self.now.circuits c.args.note.circ.0 ≡ c.index_mut-slot.result.now =
    circuit_at _ _ _ c.args.self.now c.args.note.circ.0 c.index_mut-slot.result.now c.self.view_is here
    ∙ sym c.index_mut-slot.ensures.value in
    record {
      claim = subst (λ (x : Option CircuitState). MayClaim x c.args.note) live c.requires.claim;
      fits =
          forth_fits c.self.inside.counters.steps c.index_mut-slot.result.now
          (taken_at c.self.inside.counters.steps c.self.inside.circuits.items c.args.note.circ.0 c.index_mut-slot.result.now
          c.self.invariant.taken below c.index_mut-slot.ensures.value)
          (omega (arith, c.requires.steps, ap (λ (s : State). s.steps) c.self.view_is));
    }

pub index_mut-slot-requires : goal.index_mut-slot-requires
index_mut-slot-requires c =
    let here : c.args.note.circ.0 < length c.args.self.now.circuits =
    inside c.args.self.now.circuits c.args.note.circ.0 c.requires.claim.circuit c.requires.claim.live in
    let all : length c.self.inside.circuits.items ≡ length c.args.self.now.circuits =
    ap (λ (s : State). length s.circuits) c.self.view_is in
    omega (arith, here, all, c.self.inside.circuits.ok)

pub invariant_of-self : goal.invariant_of-self
invariant_of-self c =
    let here : c.args.note.circ.0 < length c.args.self.now.circuits =
    inside c.args.self.now.circuits c.args.note.circ.0 c.requires.claim.circuit c.requires.claim.live in
    let below : c.args.note.circ.0 < length c.self.inside.circuits.items =
    subst (λ (s : State). c.args.note.circ.0 < length s.circuits) (sym c.self.view_is) here in
    fits_circuit c.self.inside.counters c.self.inside.channels.items c.self.inside.circuits.items c.args.note.circ.0
    c.give_out_of.new.slot c.self.invariant
    (subst (λ (x : Option CircuitState). IfSome x (λ y. taken_count y ≤ c.self.inside.counters.steps))
    (sym c.in_err-give_out_of.ensures.err)
    (taken_at c.self.inside.counters.steps c.self.inside.circuits.items c.args.note.circ.0 c.index_mut-slot.result.now
    c.self.invariant.taken below c.index_mut-slot.ensures.value))

pub invariant_of-self-2 : goal.invariant_of-self-2
invariant_of-self-2 c =
    let here : c.args.note.circ.0 < length c.args.self.now.circuits =
    inside c.args.self.now.circuits c.args.note.circ.0 c.requires.claim.circuit c.requires.claim.live in
    let below : c.args.note.circ.0 < length c.self.inside.circuits.items =
    subst (λ (s : State). c.args.note.circ.0 < length s.circuits) (sym c.self.view_is) here in
    let live : slot_at c.args.self.now.circuits c.args.note.circ.0 ≡ c.index_mut-slot.result.now =
    circuit_at _ _ _ c.args.self.now c.args.note.circ.0 c.index_mut-slot.result.now c.self.view_is here
    ∙ sym c.index_mut-slot.ensures.value in
    fits_claimed c.self.inside.counters c.self.inside.channels.items c.self.inside.circuits.items c.args.note.circ.0 c.args.note
    c.index_mut-slot.result.now c.give_out_of.new.slot c.self.invariant below c.index_mut-slot.ensures.value
    (subst (λ (x : Option CircuitState). MayClaim x c.args.note) live c.requires.claim) c.in_ok-give_out_of.ensures.ok

pub returns-clause-ok : goal.returns-clause-ok
returns-clause-ok c =
    let here : c.args.note.circ.0 < length c.args.self.now.circuits =
    inside c.args.self.now.circuits c.args.note.circ.0 c.requires.claim.circuit c.requires.claim.live in
    let live : slot_at c.args.self.now.circuits c.args.note.circ.0 ≡ c.index_mut-slot.result.now =
    circuit_at _ _ _ c.args.self.now c.args.note.circ.0 c.index_mut-slot.result.now c.self.view_is here
    ∙ sym c.index_mut-slot.ensures.value in
    claim_put c.self.inside.counters c.self.inside.channels.items c.self.inside.circuits.items c.args.self.now c.args.note
    c.index_mut-slot.result.now c.give_out_of.new.slot c.self.view_is live c.in_ok-give_out_of.ensures.ok
