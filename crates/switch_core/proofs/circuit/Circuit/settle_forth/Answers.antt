use Rattle.std.proofs.Common.{◌≡◌, ◌+◌, ◌≤◌, ◌∷◌, ℕ, List, length, None, Some, Option, refl, sym, ap, ◌∙◌, subst, arith}
use Rattle.circ_relay.specs.Values.{rules_of, effects_of}
use Rattle.circ_relay.specs.CircuitOfLog.{IsCircuit}
use Rattle.circuit_model.specs.Batches.{forward_of}
use Rattle.circuit_model.specs.declared.event.Event.TheVariants.{Forward}
use Rattle.circuit_model.specs.Events.{Event}
use Rattle.circuit_model.specs.Words.{effects}
use Rattle.switch_machine.specs.Calls.Take.{kept_length}
use Rattle.switch_machine.specs.Machine.{kept_cells}
use Rattle.switch_machine.specs.State.{CircuitState, LegState, WayState}
use Rattle.switch_machine.proofs.Take.CellCounts.{kept-count}
use Rattle.switch_core.specs.Meaning.{WithRoom, circuit_of, home_count}
use Rattle.switch_core.specs.Settling.{AreOpened, RelayFits, SettlesForth, command_at}
use Rattle.switch_core.proofs.Settles.{next_cell}
use Rattle.switch_core.proofs.SettlesOn.{goes, all_went, closes_circuit, some_reason, no_reason}
use Rattle.switch_core.proofs.SettleRoom.{goes_unclosed, applied_as, counts_more, counts_on, one_more_back, queued_still, fewer_than_kept}
use Rattle.switch_core.proofs.circuit.Circuit.settle_forth.Goals as goal

pub returns-clause-settles : goal.returns-clause-settles
returns-clause-settles c =
    let rules = rules_of c.args.rules.now in
    let count : length c.args.opened_bodies.now ≡ kept_length c.self.inside.forth.state.claim_out =
    c.requires.count ∙ sym (ap (λ (x : CircuitState). kept_length x.forth.claim_out) c.self.view_is) in
    let new : CircuitState =
    circuit_of c.loop-number.self-inside.leg.state c.bring_home-2.new.self.state c.loop-number.self-inside.back.state
    c.loop-number.self-inside.orders.state in
    subst (λ (x : CircuitState). (events : List Event) → RelayFits c.args.relay.now rules events x
    → AreOpened c.args.opened_bodies.now rules events x
    → SettlesForth rules events x new c.args.counters.now c.loop-number.counters c.loop-number.relay None) c.self.view_is
    (λ events is outputs.
    all_went rules events _ new c.args.counters.now c.loop-number.counters c.loop-number.number c.loop-number.relay
    c.loop-number.self-inside.leg.state c.loop-number.self-inside.forth.state c.loop-number.self-inside.back.state
    c.loop-number.self-inside.orders.state c.args.opened_bodies.now
    (c.loop-number.invariant.goes_on events (is refl) outputs)
    (omega (arith, count, kept-count c.self.inside.forth.state.claim_out, c.loop-number-test.false))
    (ap (λ w. w.state) c.loop-number.invariant.forth)
    (ap (λ (w : WayState). circuit_of c.loop-number.self-inside.leg.state w c.loop-number.self-inside.back.state
    c.loop-number.self-inside.orders.state) c.bring_home-2.ensures.state))

pub loop-number-preserved : goal.loop-number-preserved
loop-number-preserved c =
    let rules = rules_of c.args.rules.now in
    let leg = c.loop-number.self-inside.leg.state in
    let forth = c.loop-number.self-inside.forth.state in
    let back = c.loop-number.self-inside.back.state in
    let orders = c.loop-number.self-inside.orders.state in
    let k = c.loop-number.counters in
    let told = effects_of c.forward_reserved-effects.result in
    let count : length c.args.opened_bodies.now ≡ kept_length c.self.inside.forth.state.claim_out =
    c.requires.count ∙ sym (ap (λ (x : CircuitState). kept_length x.forth.claim_out) c.self.view_is) in
    let queued : length leg.queue ≤ 1 + home_count back =
    queued_still (length leg.queue) c.self.inside.back.state back
    (subst (λ (l : WithRoom LegState). length l.state.queue ≤ 1 + home_count c.self.inside.back.state)
    (sym c.loop-number.invariant.leg) c.self.invariant.queued) c.loop-number.invariant.claimed_count
    c.loop-number.invariant.claim_out in
    let grown = one_more_back _ k.bodies told back c.apply-reason.new.back.state c.apply-reason.ensures.back in
    let counted = counts_more _ told k c.apply-reason.new.counters c.apply-reason.ensures.counts in
    record {
      leg = c.loop-number.invariant.leg;
      forth = c.loop-number.invariant.forth;
      claimed_count = grown.claimed_count ∙ c.loop-number.invariant.claimed_count;
      claim_out = grown.claim_out ∙ c.loop-number.invariant.claim_out;
      waiting_bodies = omega (arith, grown.waiting_bodies, c.loop-number.invariant.waiting_bodies);
      room_packaged = omega (arith, c.apply-reason.ensures.back_spare, c.loop-number.invariant.room_packaged);
      room_ordered =
          omega (
            arith,
            c.apply-reason.ensures.orders_spare,
            c.take_room-room.ensures.spare,
            c.loop-number.invariant.room_ordered,
          );
      rooms = omega (arith, c.apply-reason.ensures.rooms, c.take_room-room.ensures.rooms, c.loop-number.invariant.rooms);
      windows = omega (arith, c.forward_reserved-effects.ensures.windows, c.loop-number.invariant.windows);
      packager = omega (arith, c.forward_reserved-effects.ensures.packaged, c.loop-number.invariant.packager);
      places = omega (arith, c.forward_reserved-effects.ensures.places, c.loop-number.invariant.places);
      counts = counts_on c.args.counters.now k c.apply-reason.new.counters c.loop-number.invariant.counts counted.rest;
      bodies = omega (arith, counted.bodies, c.loop-number.invariant.bodies);
      dials = omega (arith, counted.dials, c.loop-number.invariant.dials);
      goes_on = λ events is outputs.
          let g = c.loop-number.invariant.goes_on events is outputs in
          let next = next_cell rules events (kept_cells c.self.inside.forth.state.claim_out) _ c.args.counters.now
          c.loop-number.number c.loop-number.relay leg forth back orders k c.args.opened_bodies.now _ _ g
          (fewer_than_kept c.loop-number.number c.args.opened_bodies.now c.self.inside.forth.state.claim_out count
          c.loop-number-test.true) refl in
          let command : c.command_out-command.result ≡ next.cell.command =
          c.command_out-command.ensures
          ∙ ap (λ (w : WithRoom WayState). command_at c.loop-number.number (kept_cells w.state.claim_out))
          c.loop-number.invariant.forth ∙ next.command in
          let same : told ≡ effects rules g.before (forward_of next.cell) =
          c.forward_reserved-effects.ensures.effects g.before next.cell.body g.relay_is.circuit next.opens
          ∙ ap (λ n. effects rules g.before (Forward n next.cell.body)) command in
          let applied =
          applied_as c.len-queued.result (length leg.queue) told (effects rules g.before (forward_of next.cell)) back
          c.apply-reason.new.back.state orders c.take_room-room.new.self.state c.apply-reason.new.orders.state k
          c.apply-reason.new.counters None
          c.len-queued.ensures same c.take_room-room.ensures.state
          (sym (no_reason c.apply-reason.result (sym c.if-is_some.ensures)) ∙ c.apply-reason.ensures.reason)
          c.apply-reason.ensures.back c.apply-reason.ensures.orders c.apply-reason.ensures.counts in
          let unclosed : c.forward_reserved-effects.result.close ≡ None =
          goes_unclosed (length leg.queue) told (effects rules g.before (forward_of next.cell)) back _ orders _ k _ same
          applied in
          let circuit : IsCircuit c.forward_reserved-effects.new.self rules (forward_of next.cell ∷ g.before) =
          subst (λ n. IsCircuit c.forward_reserved-effects.new.self rules (Forward n next.cell.body ∷ g.before)) command
          (c.forward_reserved-effects.ensures.circuit g.before next.cell.body g.relay_is.circuit next.opens unclosed) in
          goes rules events (kept_cells c.self.inside.forth.state.claim_out) _ c.args.counters.now c.loop-number.number
          c.loop-number.relay c.forward_reserved-effects.new.self leg forth back c.apply-reason.new.back.state orders
          c.apply-reason.new.orders.state k c.apply-reason.new.counters c.args.opened_bodies.now _
          g next queued applied circuit;
    }

pub returns-then-is_some-clause-settles : goal.returns-then-is_some-clause-settles
returns-then-is_some-clause-settles c =
    let rules = rules_of c.args.rules.now in
    let leg = c.loop-number.self-inside.leg.state in
    let forth = c.loop-number.self-inside.forth.state in
    let back = c.loop-number.self-inside.back.state in
    let orders = c.loop-number.self-inside.orders.state in
    let k = c.loop-number.counters in
    let told = effects_of c.forward_reserved-effects.result in
    let count : length c.args.opened_bodies.now ≡ kept_length c.self.inside.forth.state.claim_out =
    c.requires.count ∙ sym (ap (λ (x : CircuitState). kept_length x.forth.claim_out) c.self.view_is) in
    let queued : length leg.queue ≤ 1 + home_count back =
    queued_still (length leg.queue) c.self.inside.back.state back
    (subst (λ (l : WithRoom LegState). length l.state.queue ≤ 1 + home_count c.self.inside.back.state)
    (sym c.loop-number.invariant.leg) c.self.invariant.queued) c.loop-number.invariant.claimed_count
    c.loop-number.invariant.claim_out in
    let reason = some_reason c.apply-reason.result (sym c.if-is_some.ensures) in
    let new : CircuitState =
    circuit_of leg c.bring_home.new.self.state c.apply-reason.new.back.state c.apply-reason.new.orders.state in
    subst (λ (o : Option ℕ). (events : List Event) → RelayFits c.args.relay.now rules events c.args.self.now
    → AreOpened c.args.opened_bodies.now rules events c.args.self.now
    → SettlesForth rules events c.args.self.now new c.args.counters.now c.apply-reason.new.counters
    c.forward_reserved-effects.new.self o) (sym reason.1)
    (subst (λ (x : CircuitState). (events : List Event) → RelayFits c.args.relay.now rules events x
    → AreOpened c.args.opened_bodies.now rules events x
    → SettlesForth rules events x new c.args.counters.now c.apply-reason.new.counters c.forward_reserved-effects.new.self
    (Some reason.0)) c.self.view_is
    (λ events is outputs.
    let g = c.loop-number.invariant.goes_on events (is refl) outputs in
    let next = next_cell rules events (kept_cells c.self.inside.forth.state.claim_out) _ c.args.counters.now c.loop-number.number
    c.loop-number.relay leg forth back orders k c.args.opened_bodies.now _ _ g
    (fewer_than_kept c.loop-number.number c.args.opened_bodies.now c.self.inside.forth.state.claim_out count
    c.loop-number-test.true) refl in
    let command : c.command_out-command.result ≡ next.cell.command =
    c.command_out-command.ensures
    ∙ ap (λ (w : WithRoom WayState). command_at c.loop-number.number (kept_cells w.state.claim_out))
    c.loop-number.invariant.forth ∙ next.command in
    let same : told ≡ effects rules g.before (forward_of next.cell) =
    c.forward_reserved-effects.ensures.effects g.before next.cell.body g.relay_is.circuit next.opens
    ∙ ap (λ n. effects rules g.before (Forward n next.cell.body)) command in
    let applied =
    applied_as c.len-queued.result (length leg.queue) told (effects rules g.before (forward_of next.cell)) back
    c.apply-reason.new.back.state orders c.take_room-room.new.self.state c.apply-reason.new.orders.state k
    c.apply-reason.new.counters (Some reason.0)
    c.len-queued.ensures same c.take_room-room.ensures.state (sym reason.1 ∙ c.apply-reason.ensures.reason)
    c.apply-reason.ensures.back c.apply-reason.ensures.orders c.apply-reason.ensures.counts in
    closes_circuit rules events _ new c.args.counters.now k c.apply-reason.new.counters c.loop-number.number reason.0
    c.loop-number.relay c.forward_reserved-effects.new.self leg forth back c.apply-reason.new.back.state orders
    c.apply-reason.new.orders.state c.args.opened_bodies.now _
    g next queued applied (ap (λ w. w.state) c.loop-number.invariant.forth)
    (ap (λ (w : WayState). circuit_of leg w c.apply-reason.new.back.state c.apply-reason.new.orders.state)
    c.bring_home.ensures.state)))
