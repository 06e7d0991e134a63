-- A circuit behind one more event, by the entry that the event makes in the circuit's log. Every call that
-- gives a circuit an event goes through this.
use Rattle.std.specs.Prelude.{Bool, true, false, ℕ, ◌+◌, zero, suc, ◌++◌, List, [], ◌∷◌, Option, Some, None, option_map}
use Rattle.tor_spec.specs.CellCommands.{relay_command}
use Rattle.tor_spec.specs.Extend.{Address}
use Rattle.circuit_model.specs.Events.{CircuitCell, Event}
use Rattle.circuit_model.specs.Log.{Log, Entry, Order}
use Rattle.circuit_model.specs.NextHop.{leg_count}
use Rattle.circuit_model.specs.Rules.{Rules}
use Rattle.circuit_model.specs.Sent.{given_forth}
use Rattle.circuit_model.specs.Words.{log, entry_after}
use Rattle.switch_model.specs.Names.{dest_of}
use Rattle.switch_model.specs.Waiting.Orders.{reach_of, carry_of, close_of}
use Rattle.switch_machine.specs.State.{DialState, LegState, WayState, CircuitState, State, slot_at, with_slot}
use Rattle.switch_machine.specs.Machine.{counted, again_with}

-- A circuit to which events come, the next numbers of bodies and of dial orders, and the circuit's events.
pub record Settling : Type 0 where
  pub circuit : CircuitState
  pub bodies : ℕ
  pub dials : ℕ
  pub events : List Event

-- One more body waits.
abbrev pub more_waits : ℕ → CircuitCell → WayState → WayState
more_waits number cell way = record way { waiting_bodies = way.waiting_bodies ++ record { number = number; cell = cell } ∷ [] }

-- A body that goes back waits to be sealed.
abbrev pub back_waits : ℕ → Option (List ℕ) → WayState → WayState
back_waits n None way = way
back_waits n (Some body) way = more_waits n (record { command = relay_command; body = body }) way

-- The next body number behind it.
abbrev pub bodies_with : ℕ → Option (List ℕ) → ℕ
bodies_with n None = n
bodies_with n (Some body) = n + 1

-- A leg with more cells.
abbrev pub more_queued : List CircuitCell → LegState → LegState
more_queued cells leg = record leg { queue = leg.queue ++ cells }

-- The legs with these cells behind those of leg k, if it has its CircID.
abbrev pub queued_on : List (Option LegState) → ℕ → List CircuitCell → List (Option LegState)
queued_on legs k cells = with_slot legs k (option_map (more_queued cells) (slot_at legs k))

-- The same on the newest leg towards a next hop, if there was one.
abbrev pub hop_queued : List (Option LegState) → ℕ → List CircuitCell → List (Option LegState)
hop_queued legs zero cells = legs
hop_queued legs (suc k) cells = queued_on legs (suc k) cells

-- The orders of one kind, with one more if it is of this kind.
abbrev pub pushed_of : (Order → List Order) → List Order → Option Order → List Order
pushed_of of_order orders None = orders
pushed_of of_order orders (Some order) = orders ++ of_order order

-- The open dial order behind an event that dials (`to`), or gives the next hop up (`cut`).
abbrev pub dial_with : ℕ → Option Address → Bool → Option DialState → Option DialState
dial_with m (Some to) cut dial = Some (record { order = m; to = dest_of to; handed_out = false })
dial_with m None true dial = None
dial_with m None false dial = dial

-- The next number of a dial order behind it.
abbrev pub dials_after : ℕ → Option Address → ℕ
dials_after m None = m
dials_after m (Some to) = m + 1

abbrev pub settle_entry : Log → Entry → Settling → Settling
settle_entry log entry y = record {
  circuit = record y.circuit {
    legs = hop_queued y.circuit.legs (leg_count log) (given_forth log entry);
    back = back_waits y.bodies entry.effects.back y.circuit.back;
    reach_orders = pushed_of reach_of y.circuit.reach_orders entry.effects.edge;
    carry_orders = pushed_of carry_of y.circuit.carry_orders entry.effects.edge;
    close_orders = pushed_of close_of y.circuit.close_orders entry.effects.edge;
    dial = dial_with y.dials entry.effects.dial entry.effects.cut y.circuit.dial;
  };
  bodies = bodies_with y.bodies entry.effects.back;
  dials = dials_after y.dials entry.effects.dial;
  events = entry.event ∷ y.events;
}

-- Behind this event.
abbrev pub settle_event : Rules → Event → Settling → Settling
settle_event rules event y = settle_entry (log rules y.events) (entry_after rules (log rules y.events) event) y

-- A circuit of the switch, before any of them.
abbrev pub unsettled : List Event → State → CircuitState → Settling
unsettled ev s x = record { circuit = x; bodies = s.bodies; dials = s.dial_orders; events = ev }

-- The switch with circuit c behind them.
abbrev pub with_settled : State → ℕ → Settling → State
with_settled s c y = record (counted s) {
  bodies = y.bodies;
  dial_orders = y.dials;
  again = again_with c y.circuit.dial s.again;
  circuits = with_slot s.circuits c (Some y.circuit);
}
