-- What comes of forward bodies that come home, where the circuit has no next hop.
use Rattle.std.specs.Prelude.{ℕ, zero, suc, ◌≡◌, ◌+◌, ◌≤◌, ◌^◌, ◌&&◌, nat_le, is_some, Bool, List, [], ◌∷◌, length, map, if◌then◌else◌, Option, Some, None}
use Rattle.circ_relay.specs.CircuitOfLog.{IsCircuit}
use Rattle.circ_relay.specs.declared.circuit.Circuit.{Circuit as RelayCircuit}
use Rattle.circuit_model.specs.Batches.{events_behind, opened_each}
use Rattle.circuit_model.specs.Events.{CircuitCell, Event}
use Rattle.circuit_model.specs.Log.{Effects}
use Rattle.circuit_model.specs.NextHop.{leg_count}
use Rattle.circuit_model.specs.Packaged.{back_bodies}
use Rattle.circuit_model.specs.Rules.{Rules}
use Rattle.circuit_model.specs.Words.{log}
use Rattle.hop_crypto.specs.Ciphers.{opened_from}
use Rattle.relay_cell.specs.declared.head.Opened.{Opened}
use Rattle.switch_model.specs.Answers.GiveBack.{done_by}
use Rattle.switch_model.specs.History.Returns.{settling_reason}
use Rattle.tr_io.specs.declared.answers.BackAnswer.{BackAnswer}
use Rattle.switch_machine.specs.Calls.GiveBack.{closed_state, home_way, settle_all, settled_state}
use Rattle.switch_machine.specs.Calls.Settling.{Settling, back_waits, bodies_with, dials_after}
use Rattle.switch_machine.specs.Calls.Take.{kept_length}
use Rattle.switch_machine.specs.Calls.TearDown.{tear_down_result, tear_down_state}
use Rattle.switch_machine.specs.Machine.{counted, kept_cells}
use Rattle.switch_machine.specs.State.{CircuitState, State, WayState, slot_at}
use Rattle.switch_core.specs.Ordering.{OrdersState, ordered}
use Rattle.switch_core.specs.declared.counters.Counters.{Counters}

-- What one event's effects make of a circuit's way back, its orders and the counts, unless the way back is full.

abbrev pub is_packed : ℕ → WayState → Effects → Bool
is_packed queued back effects =
    is_some effects.back && nat_le 1500 (queued + (kept_length back.claim_out + length back.waiting_bodies))

abbrev pub closing_by : Bool → Effects → Option ℕ
closing_by is_full effects = if is_full then Some 5 else effects.close

abbrev pub back_by : Bool → ℕ → Effects → WayState → WayState
back_by is_full number effects back = if is_full then back else back_waits number effects.back back

abbrev pub orders_by : Bool → ℕ → Effects → OrdersState → OrdersState
orders_by is_full number effects orders =
    if is_full then orders else ordered number effects.edge effects.dial effects.cut orders

abbrev pub counts_by : Bool → Effects → Counters → Counters
counts_by is_full effects k =
    if is_full then k
    else record k { bodies = bodies_with k.bodies effects.back; dial_orders = dials_after k.dial_orders effects.dial }

-- The relay of a circuit without a next hop stands for these events, and all bodies that they sent back are those
-- of the way back.
pub record RelayIs (relay : RelayCircuit) (rules : Rules) (events : List Event) (back : WayState) : Type 0 where
  pub circuit : IsCircuit relay rules events
  pub unlinked : leg_count (log rules events) ≡ 0
  pub behind_is : length (back_bodies (log rules events)) ≡ back.claimed_count + length back.waiting_bodies
  pub out : kept_length back.claim_out ≤ back.claimed_count

-- The same of a circuit, if it has one leg: then it has no next hop.
abbrev pub RelayFits : RelayCircuit → Rules → List Event → CircuitState → Type 0
RelayFits relay rules events x = length x.legs ≡ 1 → RelayIs relay rules events x.back

-- The relay has room to count so many more events.
pub record HasCallsFor (n : ℕ) (relay : RelayCircuit) : Type 0 where
  pub windows : relay.windows.calls + n ≤ 2 ^ 63
  pub packager : relay.packager.padding.count + n ≤ 2 ^ 63
  pub places : relay.places.calls + n ≤ 2 ^ 63

-- The command of the cell of this number.
abbrev pub command_at : ℕ → List CircuitCell → ℕ
command_at n [] = 0
command_at zero (cell ∷ cells) = cell.command
command_at (suc n) (cell ∷ cells) = command_at n cells

-- It has counted so many at most.
pub record CallsFit (n : ℕ) (relay : RelayCircuit) : Type 0 where
  pub windows : relay.windows.calls ≤ n
  pub packager : relay.packager.padding.count ≤ n
  pub places : relay.places.calls ≤ n

-- It has counted so many more at most.
pub record CallsGrow (n : ℕ) (old new : RelayCircuit) : Type 0 where
  pub windows : new.windows.calls ≤ old.windows.calls + n
  pub packager : new.packager.padding.count ≤ old.packager.padding.count + n
  pub places : new.places.calls ≤ old.places.calls + n

-- The bodies of the claim that is out came out of the circuit's cipher as these.
abbrev pub AreOpened : List Opened → Rules → List Event → CircuitState → Type 0
AreOpened opened_bodies rules events x = opened_bodies ≡ map opened_from (opened_each rules events (kept_cells x.forth.claim_out))

abbrev pub settling_of : CircuitState → Counters → List Event → Settling
settling_of x k events = record { circuit = x; bodies = k.bodies; dials = k.dial_orders; events = events }

abbrev pub settled_all : Rules → List Event → CircuitState → Counters → Settling
settled_all rules events x k = settle_all rules (settling_of x k events) (kept_cells x.forth.claim_out)

-- They settled one after another, up to the first that closes the circuit, and came home.
pub record SettlesForth (rules : Rules) (events : List Event) (old new : CircuitState) (k next : Counters) (relay : RelayCircuit)
    (reason : Option ℕ) : Type 0 where
  pub reason_is : reason ≡ settling_reason rules old.sent_count events (kept_cells old.forth.claim_out)
  pub circuit : new ≡ record (settled_all rules events old k).circuit { forth = home_way old.forth }
  pub bodies : next.bodies ≡ (settled_all rules events old k).bodies
  pub dials : next.dial_orders ≡ (settled_all rules events old k).dials
  pub relay_is : reason ≡ None → IsCircuit relay rules (events_behind events (kept_cells old.forth.claim_out))

-- The same of a circuit by its number, which is live.
pub record SlotSettles (rules : Rules) (old new : Option CircuitState) (k next : Counters) (first relay : RelayCircuit)
    (opened_bodies : List Opened) (reason : Option ℕ) : Type 0 where
  pub circuit : CircuitState
  pub behind_it : CircuitState
  pub live : old ≡ Some circuit
  pub stays : new ≡ Some behind_it
  pub settles : (events : List Event) → RelayFits first rules events circuit → AreOpened opened_bodies rules events circuit
      → SettlesForth rules events circuit behind_it k next relay reason
  pub taken : behind_it.forth.claimed_count + length behind_it.forth.waiting_bodies ≤ circuit.forth.claimed_count
      + length circuit.forth.waiting_bodies

abbrev pub finished_state : Rules → (ℕ → List Event) → State → ℕ → Option ℕ → State
finished_state rules ev s c None = counted s
finished_state rules ev s c (Some reason) = tear_down_state rules ev s c reason

abbrev pub finished_answer : State → ℕ → Option ℕ → BackAnswer
finished_answer s c None = BackAnswer.Settled
finished_answer s c (Some reason) = tear_down_result s c reason

-- The switch behind it, by the answer.
abbrev pub settled_by : Rules → List Event → State → ℕ → CircuitState → BackAnswer → State
settled_by rules events s c x (BackAnswer.Down reason) = closed_state rules events s c x (kept_cells x.forth.claim_out) reason
settled_by rules events s c x BackAnswer.Settled = settled_state rules events s c x (kept_cells x.forth.claim_out)
settled_by rules events s c x answer = counted s

pub record Settles (rules : Rules) (events : List Event) (old new : State) (c : ℕ) (x : CircuitState) (relay : RelayCircuit)
    (answer : BackAnswer) : Type 0 where
  pub answer_is : answer ≡ done_by (settling_reason rules x.sent_count events (kept_cells x.forth.claim_out))
  pub state : new ≡ settled_by rules events old c x answer
  pub relay_is : answer ≡ BackAnswer.Settled → IsCircuit relay rules (events_behind events (kept_cells x.forth.claim_out))

abbrev pub PartsSettle : Rules → State → State → ℕ → RelayCircuit → RelayCircuit → List Opened → BackAnswer → Type 0
PartsSettle rules old new c first relay opened_bodies answer =
    (x : CircuitState) (events : List Event) → slot_at old.circuits c ≡ Some x → RelayFits first rules events x
    → AreOpened opened_bodies rules events x → Settles rules events old new c x relay answer
