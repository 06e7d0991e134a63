-- One circuit, by all that the history says of it.
use Rattle.std.specs.Prelude.{ℕ, ◌≡◌, ◌≤◌, is_some, ◌+◌, ◌==◌, ◌&&◌, List, [], ◌∷◌, length, map, take, Bool, true, false, if◌then◌else◌, Option, Some, None, option_map}
use Rattle.std.specs.List.{filter}
use Rattle.circuit_model.specs.Events.{CircuitCell}
use Rattle.circuit_model.specs.Log.{Log, Order}
use Rattle.circuit_model.specs.NextHop.{next_hop, leg_count}
use Rattle.circuit_model.specs.Opened.{born_reply}
use Rattle.circuit_model.specs.Packaged.{back_bodies}
use Rattle.circuit_model.specs.Rules.{Rules}
use Rattle.circuit_model.specs.Words.{log, serial_of, orders_of}
use Rattle.tor_spec.specs.CellCommands.{relay_command}
use Rattle.tr_io.specs.declared.names.Dir.{Dir}
use Rattle.tr_io.specs.declared.names.Dir.TheVariants.{Forth, Back}
use Rattle.switch_model.specs.Waiting.Dials.{Dial, is_dialling}
use Rattle.switch_model.specs.Waiting.Orders.{reach_of, carry_of, close_of, picked}
use Rattle.switch_model.specs.Answers.EdgeOut.{Ordered}
use Rattle.switch_model.specs.History.Relayed.{settled_forth}
use Rattle.switch_model.specs.History.Past.{Past}
use Rattle.switch_model.specs.History.EdgePast.{EdgePast}
use Rattle.switch_machine.specs.State.{DialState, CircuitState, slot_at}
use Rattle.switch_machine.specs.Stands.OneLeg.{LegAt}
use Rattle.switch_machine.specs.Stands.OneWay.{WayStands}

-- Bodies on their way back, as RELAY cells.
abbrev pub relay_cells : List (List ℕ) → List CircuitCell
relay_cells bodies = map (λ body. record { command = relay_command; body = body }) bodies

abbrev pub is_for : ℕ → Order → Bool
is_for serial order = serial_of order == serial

-- The orders of each kind that were made, place by place, where none was handed out.
pub record OrdersStand (reach carry close : List Order) (l : Log) : Type 0 where
  pub reach_orders : (serial : ℕ) → filter (is_for serial) reach ≡ picked reach_of (orders_of l serial)
  pub carry_orders : (serial : ℕ) → filter (is_for serial) carry ≡ picked carry_of (orders_of l serial)
  pub close_orders : (serial : ℕ) → filter (is_for serial) close ≡ picked close_of (orders_of l serial)

-- The last of the dial orders that a circuit made.
abbrev pub last_of : List Dial → Option Dial
last_of [] = None
last_of (dial ∷ []) = Some dial
last_of (dial ∷ other ∷ more) = last_of (other ∷ more)

abbrev pub dial_state : EdgePast → Dial → DialState
dial_state e dial = record { order = dial.order; to = dial.to; handed_out = e.handed_out dial.order }

-- The dial order that is open: the last one, while the circuit dials.
abbrev pub open_dial : Log → EdgePast → Option DialState
open_dial log e = if is_dialling (next_hop log) then option_map (dial_state e) (last_of e.dials) else None

-- The orders that torn circuits left, of one place.
abbrev pub is_at : ℕ → ℕ → Ordered → Bool
is_at c serial ordered = (ordered.circ == c) && is_for serial ordered.order

abbrev pub left_at : List Ordered → ℕ → ℕ → List Order
left_at closes c serial = map (λ ordered. ordered.order) (filter (is_at c serial) closes)

-- A live circuit.
pub record CircuitStands (rules : Rules) (closes : List Ordered) (x : CircuitState) (c : ℕ) (p : Past) (has_id : ℕ → Bool)
    (e : EdgePast) : Type 0 where
  pub live : p.live ≡ true
  pub sent_count : x.sent_count ≡ length (p.sent 0)
  -- the relay: it was opened, no more bodies are sealed than went back, and its legs are those of the switch
  pub born : is_some (born_reply (log rules p.events)) ≡ true
  pub sealed : p.sealed_count ≤ length (back_bodies (log rules p.events))
  pub linked : leg_count (log rules p.events) ≡ p.hops
  pub hops : length x.legs ≡ p.hops + 1
  pub legs : (k : ℕ) → LegAt rules (slot_at x.legs k) k p (has_id k)
  pub forth :
      WayStands c Forth x.forth (settled_forth (log rules p.events)) p.taken_forth (p.claimed_count Forth) (p.claim_out Forth)
      (e.numbers Forth)
  pub back :
      WayStands c Back x.back (take p.sealed_count (relay_cells (back_bodies (log rules p.events))))
      (relay_cells (back_bodies (log rules p.events))) (p.claimed_count Back) (p.claim_out Back) (e.numbers Back)
  pub orders : OrdersStand x.reach_orders x.carry_orders x.close_orders (log rules p.events)
  pub no_left : (serial : ℕ) → left_at closes c serial ≡ []
  pub dial : x.dial ≡ open_dial (log rules p.events) e

-- A circuit that isn't live: the orders that it left.
pub record CircuitGone (closes : List Ordered) (c : ℕ) (p : Past) (e : EdgePast) : Type 0 where
  pub live : p.live ≡ false
  pub left : (serial : ℕ) → left_at closes c serial ≡ e.left serial

abbrev pub CircuitAt : Rules → List Ordered → Option CircuitState → ℕ → Past → (ℕ → Bool) → EdgePast → Type 0
CircuitAt rules closes None c p has_id e = CircuitGone closes c p e
CircuitAt rules closes (Some x) c p has_id e = CircuitStands rules closes x c p has_id e

-- A number that no circuit was given yet has no past.
abbrev pub no_past : Past
no_past = record {
  live = false;
  events = [];
  taken_forth = [];
  taken_back = [];
  sent = λ k. [];
  port = λ k. None;
  hops = 0;
  sealed_count = 0;
  claimed_count = λ dir. 0;
  claim_out = λ dir. None;
}

pub record IsFresh (p : Past) (e : EdgePast) : Type 0 where
  pub past : p ≡ no_past
  pub left : (serial : ℕ) → e.left serial ≡ []
  pub numbers : (dir : Dir) → e.numbers dir ≡ []
