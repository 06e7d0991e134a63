use Rattle.std.proofs.Common.{◌≡◌, ◌+◌, ◌≤◌, List, length}
use Rattle.circ_relay.specs.Values.{rules_of}
use Rattle.circuit_model.specs.Events.{Event}
use Rattle.switch_machine.specs.Machine.{kept_cells}
use Rattle.switch_core.specs.Meaning.{circuit_of}
use Rattle.switch_core.specs.Settling.{AreOpened, RelayIs}
use Rattle.switch_core.proofs.Settles.{GoesOn}
use Rattle.switch_core.proofs.circuit.Circuit.settle_forth.Given as goal

abbrev pub invariant-loop-number : goal.invariant-loop-number
invariant-loop-number l = record {
  leg : l.self-inside.leg ≡ l.initial.self-inside.leg;
  forth : l.self-inside.forth ≡ l.initial.self-inside.forth;
  claimed_count : l.self-inside.back.state.claimed_count ≡ l.initial.self-inside.back.state.claimed_count;
  claim_out : l.self-inside.back.state.claim_out ≡ l.initial.self-inside.back.state.claim_out;
  waiting_bodies : length l.self-inside.back.state.waiting_bodies ≤ length l.initial.self-inside.back.state.waiting_bodies
      + l.number;
  room_packaged : l.initial.self-inside.back.spare ≤ l.self-inside.back.spare + l.number;
  room_ordered : l.initial.self-inside.orders.spare ≤ l.self-inside.orders.spare + l.number;
  rooms : l.initial.self-inside.orders.rooms ≤ l.self-inside.orders.rooms + l.number;
  windows : l.relay.windows.calls ≤ l.initial.relay.windows.calls + l.number;
  packager : l.relay.packager.padding.count ≤ l.initial.relay.packager.padding.count + l.number;
  places : l.relay.places.calls ≤ l.initial.relay.places.calls + l.number;
  counts : l.counters ≡ record l.initial.counters { bodies = l.counters.bodies; dial_orders = l.counters.dial_orders };
  bodies : l.counters.bodies ≤ l.initial.counters.bodies + l.number;
  dials : l.counters.dial_orders ≤ l.initial.counters.dial_orders + l.number;
  goes_on :
      (events : List Event) → RelayIs l.initial.relay (rules_of l.rules) events l.initial.self-inside.back.state
      → AreOpened l.opened_bodies (rules_of l.rules) events
      (circuit_of l.initial.self-inside.leg.state l.initial.self-inside.forth.state l.initial.self-inside.back.state
      l.initial.self-inside.orders.state)
      → GoesOn (rules_of l.rules) events (kept_cells l.initial.self-inside.forth.state.claim_out)
      (circuit_of l.initial.self-inside.leg.state l.initial.self-inside.forth.state l.initial.self-inside.back.state
      l.initial.self-inside.orders.state) l.initial.counters l.number l.relay
      l.self-inside.leg.state l.self-inside.forth.state l.self-inside.back.state l.self-inside.orders.state l.counters
      l.opened_bodies;
}
