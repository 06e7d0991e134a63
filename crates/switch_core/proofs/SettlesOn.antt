-- Forward bodies that settle one after another: one goes, all went, one closes.
use Rattle.std.proofs.Common.{◌≡◌, ℕ, ◌+◌, ◌-◌, ◌≤◌, is_some, Bool, true, false, if◌then◌else◌, List, [], ◌∷◌, length, Option, Some, None, refl, sym, ◌∙◌, ap, subst, drop_of_length-le, arith}
use Rattle.circ_relay.specs.CircuitOfLog.{IsCircuit}
use Rattle.circ_relay.specs.declared.circuit.Circuit.{Circuit as RelayCircuit}
use Rattle.circuit_model.specs.Batches.{events_behind, forward_of}
use Rattle.circuit_model.specs.Events.{CircuitCell, Event}
use Rattle.circuit_model.specs.Log.{Effects}
use Rattle.circuit_model.specs.Rules.{Rules}
use Rattle.circuit_model.specs.Words.{effects}
use Rattle.relay_cell.specs.declared.head.Opened.{Opened}
use Rattle.switch_model.specs.History.Returns.{Goes, closing_at, settling_reason, reason_with}
use Rattle.switch_machine.specs.Calls.GiveBack.{home_way, settle_all, settle_one, settle_with}
use Rattle.switch_machine.specs.Calls.Settling.{Settling, back_waits, bodies_with, dials_after}
use Rattle.switch_machine.specs.Machine.{kept_cells}
use Rattle.switch_machine.specs.State.{LegState, CircuitState, WayState}
use Rattle.switch_core.specs.Meaning.{circuit_of, home_count}
use Rattle.switch_core.specs.Ordering.{OrdersState, ordered}
use Rattle.switch_core.specs.Settling.{is_packed, back_by, orders_by, counts_by, RelayIs, SettlesForth, settled_all, settling_of}
use Rattle.switch_core.specs.declared.counters.Counters.{Counters}
use Rattle.switch_core.proofs.Settles.{home-same, closing-is, one-is, GoesOn, NextCell, Applied, goes-by, ends-by, left-by, relay-goes}

-- a body that goes, where none closed before
pub goes : (rules : Rules) (events : List Event) (cells : List CircuitCell) (x : CircuitState) (k : Counters) (n : ℕ)
    (relay relay' : RelayCircuit) (leg : LegState) (forth back back' : WayState) (orders orders' : OrdersState)
    (next next' : Counters) (outputs : List Opened) (one : Opened) →
    (g : GoesOn rules events cells x k n relay leg forth back orders next outputs)
    → (c : NextCell rules g.before cells g.rest outputs one n) → length leg.queue ≤ 1 + home_count back →
    Applied (length leg.queue) (effects rules g.before (forward_of c.cell)) back back' orders orders' next next' None
    → IsCircuit relay' rules (forward_of c.cell ∷ g.before) →
    GoesOn rules events cells x k (n + 1) relay' leg forth back' orders' next' outputs
goes rules events cells x k n relay relay' leg forth back back' orders orders' next next' outputs one g c queued applied circuit =
    let e = effects rules g.before (forward_of c.cell) in
    let open_is = goes-by (is_packed (length leg.queue) back e) e (sym applied.reason_is) in
    let closing : closing_at rules (circuit_of leg forth back orders).sent_count g.before c.cell ≡ Goes =
    closing-is rules g.before relay leg forth back orders c.cell queued g.relay_is ∙ open_is.1 in
    let back_is : back' ≡ back_waits next.bodies e.back back =
    applied.back_is ∙ ap (λ b. back_by b next.bodies e back) open_is.0 in
    let orders_is : orders' ≡ ordered next.dial_orders e.edge e.dial e.cut orders =
    applied.orders_is ∙ ap (λ b. orders_by b next.dial_orders e orders) open_is.0 in
    let counts_is : next' ≡ record next {
      bodies = bodies_with next.bodies e.back;
      dial_orders = dials_after next.dial_orders e.dial;
    } = applied.counts_is ∙ ap (λ b. counts_by b e next) open_is.0 in
    let one_is = one-is rules g.before leg forth back orders next c.cell g.relay_is.unlinked in
    record {
      before = forward_of c.cell ∷ g.before;
      rest = c.later;
      left = c.left;
      together = ap (events_behind g.before) (sym c.rest_is) ∙ g.together;
      relay_is = subst (RelayIs relay' rules (forward_of c.cell ∷ g.before)) (sym back_is)
          (relay-goes rules g.before relay relay' back next.bodies c.cell g.relay_is circuit);
      settled =
          g.settled
          ∙ ap (settle_all rules (settling_of (circuit_of leg forth back orders) next g.before)) c.rest_is
          ∙ ap (λ w. settle_with w (settling_of (circuit_of leg forth back orders) next g.before)
          (settle_one rules c.cell (settling_of (circuit_of leg forth back orders) next g.before))
          (settle_all rules (settle_one rules c.cell (settling_of (circuit_of leg forth back orders) next g.before)) c.later))
          closing
          ∙ ap (λ y. settle_all rules y c.later) (one_is ∙ rw (back_is, orders_is, counts_is) refl);
      reason =
          g.reason
          ∙ ap (settling_reason rules (circuit_of leg forth back orders).sent_count g.before) c.rest_is
          ∙ ap (λ w. reason_with w
          (settling_reason rules (circuit_of leg forth back orders).sent_count (forward_of c.cell ∷ g.before) c.later))
          closing
          ∙ ap (λ m. settling_reason rules (1 + m - length leg.queue) (forward_of c.cell ∷ g.before) c.later)
          (sym (home-same next.bodies e.back back) ∙ ap home_count (sym back_is));
      outputs = c.outputs;
    }

-- all of them went
pub all_went : (rules : Rules) (events : List Event) (x new : CircuitState) (k next : Counters) (n : ℕ) (relay : RelayCircuit)
    (leg : LegState) (forth back : WayState) (orders : OrdersState) (outputs : List Opened) →
    GoesOn rules events (kept_cells x.forth.claim_out) x k n relay leg forth back orders next outputs
    → length (kept_cells x.forth.claim_out) ≤ n → forth ≡ x.forth → new ≡ circuit_of leg (home_way forth) back orders →
    SettlesForth rules events x new k next relay None
all_went rules events x new k next n relay leg forth back orders outputs g far same is =
    let none : g.rest ≡ [] = sym g.left ∙ drop_of_length-le (kept_cells x.forth.claim_out) far in
    let settled : settled_all rules events x k ≡ settling_of (circuit_of leg forth back orders) next g.before =
    g.settled ∙ ap (settle_all rules (settling_of (circuit_of leg forth back orders) next g.before)) none in
    record {
      reason_is = sym (g.reason ∙ ap (settling_reason rules (circuit_of leg forth back orders).sent_count g.before) none);
      circuit = is ∙ ap (λ w. circuit_of leg (home_way w) back orders) same
          ∙ sym (ap (λ (y : Settling). record y.circuit { forth = home_way x.forth }) settled);
      bodies = sym (ap (λ (y : Settling). y.bodies) settled);
      dials = sym (ap (λ (y : Settling). y.dials) settled);
      relay_is = λ unclosed. subst (IsCircuit relay rules) (ap (events_behind g.before) (sym none) ∙ g.together)
          g.relay_is.circuit;
    }

ends-left : (p : Bool) {y one : Settling} {leg : LegState} {forth back back' : WayState} {orders orders' : OrdersState}
    (next : Counters) {next' : Counters} (e : Effects) {before after : List Event}
    → y ≡ settling_of (circuit_of leg forth back orders) next before →
    one ≡ settling_of
    (circuit_of leg forth (back_waits next.bodies e.back back) (ordered next.dial_orders e.edge e.dial e.cut orders))
    (record next { bodies = bodies_with next.bodies e.back; dial_orders = dials_after next.dial_orders e.dial }) after →
    back' ≡ back_by p next.bodies e back → orders' ≡ orders_by p next.dial_orders e orders → next' ≡ counts_by p e next →
    (if p then y else one) ≡ settling_of (circuit_of leg forth back' orders') next' (if p then before else after)
ends-left true next e y_is one_is back_is orders_is counts_is = y_is ∙ rw (back_is, orders_is, counts_is) refl
ends-left false next e y_is one_is back_is orders_is counts_is = one_is ∙ rw (back_is, orders_is, counts_is) refl

-- one of them closes
pub closes_circuit : (rules : Rules) (events : List Event) (x new : CircuitState) (k next next' : Counters) (n reason : ℕ)
    (relay relay' : RelayCircuit) (leg : LegState) (forth back back' : WayState) (orders orders' : OrdersState)
    (outputs : List Opened) (one : Opened) →
    (g : GoesOn rules events (kept_cells x.forth.claim_out) x k n relay leg forth back orders next outputs)
    → (c : NextCell rules g.before (kept_cells x.forth.claim_out) g.rest outputs one n)
    → length leg.queue ≤ 1 + home_count back →
    Applied (length leg.queue) (effects rules g.before (forward_of c.cell)) back back' orders orders' next next' (Some reason)
    → forth ≡ x.forth → new ≡ circuit_of leg (home_way forth) back' orders' →
    SettlesForth rules events x new k next' relay' (Some reason)
closes_circuit rules events x new k next next' n reason relay relay' leg forth back back' orders orders' outputs one g c queued
    applied same is =
    let e = effects rules g.before (forward_of c.cell) in
    let y = settling_of (circuit_of leg forth back orders) next g.before in
    let p = is_packed (length leg.queue) back e in
    let closing = closing-is rules g.before relay leg forth back orders c.cell queued g.relay_is in
    let settled : settled_all rules events x k ≡ (if p then y else settle_one rules c.cell y) =
    g.settled
    ∙ ap (settle_all rules y) c.rest_is
    ∙ ap (λ w. settle_with w y (settle_one rules c.cell y) (settle_all rules (settle_one rules c.cell y) c.later)) closing
    ∙ left-by p e reason y (settle_one rules c.cell y) (settle_all rules (settle_one rules c.cell y) c.later)
    (sym applied.reason_is) in
    let made : (if p then y else settle_one rules c.cell y) ≡ settling_of (circuit_of leg forth back' orders') next'
    (if p then g.before else forward_of c.cell ∷ g.before) =
    ends-left p next e refl (one-is rules g.before leg forth back orders next c.cell g.relay_is.unlinked) applied.back_is
    applied.orders_is applied.counts_is in
    record {
      reason_is =
          ends-by p e reason
          (settling_reason rules (circuit_of leg forth back orders).sent_count (forward_of c.cell ∷ g.before) c.later)
          (sym applied.reason_is)
          ∙ ap (λ w. reason_with w
          (settling_reason rules (circuit_of leg forth back orders).sent_count (forward_of c.cell ∷ g.before) c.later))
          (sym closing)
          ∙ sym (g.reason ∙ ap (settling_reason rules (circuit_of leg forth back orders).sent_count g.before) c.rest_is);
      circuit = is ∙ ap (λ w. circuit_of leg (home_way w) back' orders') same
          ∙ sym (ap (λ (z : Settling). record z.circuit { forth = home_way x.forth }) (settled ∙ made));
      bodies = sym (ap (λ (z : Settling). z.bodies) (settled ∙ made));
      dials = sym (ap (λ (z : Settling). z.dials) (settled ∙ made));
      relay_is = λ unclosed. cc;
    }

pub some_reason : (o : Option ℕ) → is_some o ≡ true → (reason : ℕ) × (o ≡ Some reason)
some_reason None is = cc
some_reason (Some reason) is = (reason, refl)

pub no_reason : (o : Option ℕ) → is_some o ≡ false → o ≡ None
no_reason None is = refl
no_reason (Some reason) is = cc
