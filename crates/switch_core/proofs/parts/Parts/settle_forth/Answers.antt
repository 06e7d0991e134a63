use Rattle.std.proofs.Common.{◌≡◌, ◌+◌, ◌<◌, ◌^◌, [], length, is_some, Option, IfSome, sym, ap, ◌∙◌, subst, arith}
use Rattle.std.specs.Prelude.{IsTrue}
use Rattle.circ_relay.specs.Values.{rules_of}
use Rattle.switch_model.specs.History.Returns.{settled}
use Rattle.switch_machine.specs.Calls.Take.{kept_length}
use Rattle.switch_machine.specs.Machine.{kept_cells}
use Rattle.switch_machine.specs.State.{CircuitState, State, with_slot}
use Rattle.switch_core.specs.Settling.{AreOpened, CallsFit, RelayFits, SettlesForth}
use Rattle.switch_core.specs.Meaning.{home_count}
use Rattle.switch_core.proofs.TakeSteps.{no_rules}
use Rattle.switch_core.proofs.ForthHome.{calls_for}
use Rattle.switch_core.proofs.Leaves.{circuit_put}
use Rattle.switch_core.proofs.Settled.{live_slot, finished_steps, fits_settled, is_inside, settled_fits, settles_by, some_is}
use Rattle.switch_core.proofs.Taken.{fits_circuit, taken_at}
use Rattle.switch_core.proofs.parts.Parts.settle_forth.Goals as goal

pub index_mut-slot-requires : goal.index_mut-slot-requires
index_mut-slot-requires c =
    let inside : c.args.circ.0 < length c.args.self.now.circuits =
    is_inside c.args.self.now.circuits c.args.circ.0 c.requires.live in
    omega (arith, subst (λ (s : State). c.args.circ.0 < length s.circuits) (sym c.self.view_is) inside, c.self.inside.circuits.ok)

pub settle_forth_of-reason-requires-clause-live : goal.settle_forth_of-reason-requires-clause-live
settle_forth_of-reason-requires-clause-live c =
    subst (λ (x : Option CircuitState). IsTrue (is_some x))
    (live_slot c.self.inside.counters c.self.inside.channels.items c.self.inside.circuits.items c.args.self.now c.args.circ.0
    c.index_mut-slot.result.now c.self.view_is c.requires.live c.index_mut-slot.ensures.value) c.requires.live

pub settle_forth_of-reason-requires-clause-count : goal.settle_forth_of-reason-requires-clause-count
settle_forth_of-reason-requires-clause-count c =
    subst (λ (x : Option CircuitState). IfSome x (λ y. length c.args.opened_bodies.now ≡ kept_length y.forth.claim_out))
    (live_slot c.self.inside.counters c.self.inside.channels.items c.self.inside.circuits.items c.args.self.now c.args.circ.0
    c.index_mut-slot.result.now c.self.view_is c.requires.live c.index_mut-slot.ensures.value) c.requires.count

pub settle_forth_of-reason-requires-clause-calls : goal.settle_forth_of-reason-requires-clause-calls
settle_forth_of-reason-requires-clause-calls c =
    let slot = live_slot c.self.inside.counters c.self.inside.channels.items c.self.inside.circuits.items c.args.self.now
    c.args.circ.0 c.index_mut-slot.result.now c.self.view_is c.requires.live c.index_mut-slot.ensures.value in
    let below : c.args.circ.0 < length c.self.inside.circuits.items =
    subst (λ (s : State). c.args.circ.0 < length s.circuits) (sym c.self.view_is)
    (is_inside c.args.self.now.circuits c.args.circ.0 c.requires.live) in
    calls_for c.self.inside.counters.steps c.index_mut-slot.result.now c.args.relay.now
    (subst (λ (x : Option CircuitState). IsTrue (is_some x)) slot c.requires.live)
    (subst (λ (x : Option CircuitState). IfSome x (λ y. CallsFit (home_count y.forth) c.args.relay.now)) slot c.requires.calls)
    (taken_at c.self.inside.counters.steps c.self.inside.circuits.items c.args.circ.0 c.index_mut-slot.result.now
    c.self.invariant.taken below c.index_mut-slot.ensures.value)
    (subst (λ (s : State). s.steps < 2 ^ 62) (sym c.self.view_is) c.requires.steps)

pub invariant_of-self : goal.invariant_of-self
invariant_of-self c =
    let below : c.args.circ.0 < length c.self.inside.circuits.items =
    subst (λ (s : State). c.args.circ.0 < length s.circuits) (sym c.self.view_is)
    (is_inside c.args.self.now.circuits c.args.circ.0 c.requires.live) in
    fits_circuit c.self.inside.counters c.self.inside.channels.items c.self.inside.circuits.items c.args.circ.0
    c.settle_forth_of-reason.new.slot c.self.invariant
    (settled_fits c.self.inside.counters.steps _ c.index_mut-slot.result.now c.settle_forth_of-reason.new.slot _ _ _ _ _ _
    c.settle_forth_of-reason.ensures.settles
    (taken_at c.self.inside.counters.steps c.self.inside.circuits.items c.args.circ.0 c.index_mut-slot.result.now
    c.self.invariant.taken below c.index_mut-slot.ensures.value))

pub invariant_of-self-2 : goal.invariant_of-self-2
invariant_of-self-2 c =
    let steps : c.self-2.inside.counters.steps ≡ c.self.inside.counters.steps + 1 =
    ap (λ s. s.steps) c.self-2.view_is ∙ ap (λ s. s.steps) (c.finish-answer.ensures.state no_rules (λ n. []))
    ∙ finished_steps no_rules (λ n. []) _ c.args.circ.0 c.settle_forth_of-reason.result in
    fits_settled c.self-2.inside.counters c.self-2.inside.channels.items c.self-2.inside.circuits.items
    c.settle_forth_of-reason.new.counters.bodies c.settle_forth_of-reason.new.counters.dial_orders
    c.self.inside.counters.steps c.self-2.invariant
    (omega (arith, c.settle_forth_of-reason.ensures.bodies, c.self.invariant.bodies_fit))
    (omega (arith, c.settle_forth_of-reason.ensures.dials, c.self.invariant.dials_fit)) steps

pub returns : goal.returns
returns c = record {
  steps =
      ap (λ s. s.steps) c.self-2.view_is
      ∙ ap (λ s. s.steps) (c.finish-answer.ensures.state no_rules (λ n. []))
      ∙ finished_steps no_rules (λ n. []) _ c.args.circ.0 c.settle_forth_of-reason.result
      ∙ ap (λ (s : State). s.steps + 1) c.self.view_is;
  grown = c.settle_forth_of-reason.ensures.grown;
  settles = λ x events live is outputs.
      let rules = rules_of c.args.rules.now in
      let slots = c.settle_forth_of-reason.ensures.settles in
      let k = c.self.inside.counters in
      let same : slots.circuit ≡ x =
      some_is c.index_mut-slot.result.now slots.circuit x slots.live
      (sym (live_slot k c.self.inside.channels.items c.self.inside.circuits.items c.args.self.now c.args.circ.0
      c.index_mut-slot.result.now c.self.view_is c.requires.live c.index_mut-slot.ensures.value) ∙ live) in
      let settles : SettlesForth rules events x slots.behind_it k c.settle_forth_of-reason.new.counters
      c.settle_forth_of-reason.new.relay c.settle_forth_of-reason.result =
      subst (λ (y : CircuitState). RelayFits c.args.relay.now rules events y → AreOpened c.args.opened_bodies.now rules events y
      → SettlesForth rules events y slots.behind_it k c.settle_forth_of-reason.new.counters c.settle_forth_of-reason.new.relay
      c.settle_forth_of-reason.result) same
      (slots.settles events) is outputs in
      let put = circuit_put k c.self.inside.channels.items c.self.inside.circuits.items c.args.self.now c.args.circ.0
      c.settle_forth_of-reason.new.slot c.self.view_is
      ∙ ap (λ (y : Option CircuitState). record c.args.self.now { circuits = with_slot c.args.self.now.circuits c.args.circ.0 y })
      slots.stays in
      settles_by rules events c.args.self.now _ c.finish-answer.new.self _ c.args.circ.0 x slots.behind_it k
      c.settle_forth_of-reason.new.counters c.settle_forth_of-reason.new.relay c.settle_forth_of-reason.result
      c.finish-answer.result live
      (ap (λ (s : State). s.again) (sym c.self.view_is)) (ap (λ s. s.bodies) c.self.view_is)
      (ap (λ s. s.dial_orders) c.self.view_is) settles put
      (c.finish-answer.ensures.state rules (λ n. settled rules x.sent_count events (kept_cells x.forth.claim_out)))
      c.finish-answer.ensures.answer
      (ap {A = State}
      (λ s. record s {
        bodies = c.settle_forth_of-reason.new.counters.bodies;
        dial_orders = c.settle_forth_of-reason.new.counters.dial_orders;
      }) c.self-2.view_is);
}
