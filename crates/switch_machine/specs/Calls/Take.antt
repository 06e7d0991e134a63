-- take.
use Rattle.std.specs.Prelude.{ℕ, ◌+◌, ◌-◌, ◌==◌, ◌||◌, ◌&&◌, nat_le, not, is_some, zero, suc, List, length, Bool, if◌then◌else◌, filter, Option, Some, None}
use Rattle.std.specs.Option.{option_or}
use Rattle.cell_codec.specs.declared.cell.Cell.{Cell}
use Rattle.circuit_model.specs.Events.{CircuitCell, Event}
use Rattle.circuit_model.specs.declared.event.Event.TheVariants.{Backward, Answered}
use Rattle.circuit_model.specs.NextHop.{next_hop}
use Rattle.circuit_model.specs.Rules.{Rules}
use Rattle.circuit_model.specs.Words.{log, closes}
use Rattle.tor_spec.specs.CellCommands.{asks_for_circuit}
use Rattle.tor_spec.specs.Reasons.{destroy_protocol, destroy_resource_limit, destroy_destroyed}
use Rattle.tr_io.specs.declared.answers.TakeAnswer.{TakeAnswer}
use Rattle.tr_io.specs.declared.answers.Why.{Why}
use Rattle.tr_io.specs.declared.names.Dir.{Dir}
use Rattle.tr_io.specs.declared.names.Dir.TheVariants.{Forth, Back}
use Rattle.switch_model.specs.Limits.{held_limit}
use Rattle.switch_model.specs.Names.{Leg, circ_no, circuit_cell}
use Rattle.switch_model.specs.History.Taken.{is_hop}
use Rattle.switch_model.specs.History.Circuit.{current_leg, is_waiting, taken_from_hop}
use Rattle.switch_model.specs.History.Returns.{held_back_after}
use Rattle.switch_model.specs.Answers.Take.{is_padding, is_link, is_relay, is_destroy, is_relay_early, is_created2, is_for_circuit, is_number}
use Rattle.switch_machine.specs.State.{ChannelState, LegState, KeptClaim, CircuitState, State, slot_at, with_slot}
use Rattle.switch_machine.specs.Machine.{counted, leg_at, legs_of, has_port}
use Rattle.switch_machine.specs.Calls.Settling.{more_waits, settle_event, unsettled, with_settled}
use Rattle.switch_machine.specs.Calls.TearDown.{torn_state}

-- The leg of a live circuit that has a CircID.

-- Among the first legs of circuit c.
abbrev pub leg_below : ℕ → ℕ → ℕ → Option CircuitState → ℕ → Option Leg
leg_below chan id c circuit zero = None
leg_below chan id c circuit (suc k) =
    option_or (leg_below chan id c circuit k)
    (if has_port chan id (leg_at circuit k) then Some (record { circ = c; number = k }) else None)

-- Among those of the first circuits.
abbrev pub leg_before : State → ℕ → ℕ → ℕ → Option Leg
leg_before s chan id zero = None
leg_before s chan id (suc c) =
    option_or (leg_before s chan id c) (leg_below chan id c (slot_at s.circuits c) (legs_of (slot_at s.circuits c)))

abbrev pub found_leg : State → ℕ → ℕ → Option Leg
found_leg s chan id = leg_before s chan id (length s.circuits)

-- How many cells a direction holds.

abbrev pub queue_length : Option LegState → ℕ
queue_length (Some leg) = length leg.queue
queue_length None = 0

-- On the legs 1 to k.
abbrev pub queued_on_hops : CircuitState → ℕ → ℕ
queued_on_hops x zero = 0
queued_on_hops x (suc k) = queued_on_hops x k + queue_length (slot_at x.legs (suc k))

abbrev pub kept_length : Option KeptClaim → ℕ
kept_length (Some claim_out) = length claim_out.cells
kept_length None = 0

abbrev pub held_by : Rules → List Event → CircuitState → Dir → ℕ
held_by rules ev x Back = held_back_after rules ev x.sent_count
held_by rules ev x Forth = kept_length x.forth.claim_out + length x.forth.waiting_bodies + queued_on_hops x (length x.legs - 1)

-- The answer.

abbrev pub queued_in : Rules → List Event → CircuitState → ℕ → Dir → TakeAnswer
queued_in rules ev x c dir =
    if nat_le held_limit (held_by rules ev x dir) then TakeAnswer.Down (circ_no c) destroy_resource_limit else TakeAnswer.Queued

abbrev pub client_result : Rules → List Event → CircuitState → ℕ → CircuitCell → TakeAnswer
client_result rules ev x c cell =
    if is_destroy cell.command then TakeAnswer.Down (circ_no c) destroy_destroyed
    else if is_created2 cell.command then TakeAnswer.Down (circ_no c) destroy_protocol
    else queued_in rules ev x c Forth

abbrev pub answered_in : Rules → List Event → CircuitState → ℕ → Option ℕ → TakeAnswer
answered_in rules ev x c (Some reason) = TakeAnswer.Down (circ_no c) reason
answered_in rules ev x c None = queued_in rules ev x c Back

abbrev pub hop_result : Rules → List Event → CircuitState → ℕ → Bool → CircuitCell → TakeAnswer
hop_result rules ev x c awaiting cell =
    if is_destroy cell.command then TakeAnswer.Down (circ_no c) destroy_destroyed
    else if is_relay_early cell.command then TakeAnswer.Down (circ_no c) destroy_protocol
    else if is_created2 cell.command && awaiting then answered_in rules ev x c (closes rules ev (Answered cell.body))
    else if is_created2 cell.command || awaiting then TakeAnswer.Down (circ_no c) destroy_protocol
    else queued_in rules ev x c Back

abbrev pub leg_result : Rules → List Event → Leg → CircuitCell → Option CircuitState → TakeAnswer
leg_result rules ev leg cell None = TakeAnswer.PassedOver Why.NoCircuit
leg_result rules ev leg cell (Some x) =
    if leg.number == 0 then client_result rules ev x leg.circ cell
    else if is_number leg.number (current_leg (log rules ev))
    then hop_result rules ev x leg.circ (is_waiting (next_hop (log rules ev))) cell
    else TakeAnswer.PassedOver Why.NoCircuit

abbrev pub found_result : Rules → (ℕ → List Event) → State → CircuitCell → Option Leg → TakeAnswer
found_result rules ev s cell None = TakeAnswer.PassedOver Why.NoCircuit
found_result rules ev s cell (Some leg) = leg_result rules (ev leg.circ) leg cell (slot_at s.circuits leg.circ)

abbrev pub take_result : Rules → (ℕ → List Event) → State → ℕ → Cell → TakeAnswer
take_result rules ev s chan cell =
    if not (is_some (slot_at s.channels chan)) then TakeAnswer.PassedOver Why.NoChannel
    else if is_padding cell.command then TakeAnswer.PassedOver Why.Padding
    else if asks_for_circuit cell.command then TakeAnswer.PassedOver Why.Opening
    else if is_link cell.command then TakeAnswer.PassedOver Why.Link
    else if not (is_for_circuit cell.command) then TakeAnswer.PassedOver Why.Unknown
    else found_result rules ev s (circuit_cell cell) (found_leg s chan cell.circ)

-- The state behind it.

-- A cell from the client's side waits.
abbrev pub forth_waits : ℕ → CircuitCell → CircuitState → CircuitState
forth_waits number cell x = record x { forth = more_waits number cell x.forth }

abbrev pub queued_forth_state : State → ℕ → CircuitCell → CircuitState → State
queued_forth_state s c cell x = record (counted s) {
  bodies = s.bodies + 1;
  circuits = with_slot s.circuits c (Some (forth_waits s.bodies cell x));
}

-- A cell from the next hop is an event: RELAY a body on its way back, CREATED2 the answer that was awaited.
abbrev pub hop_event : CircuitCell → Event
hop_event cell = if is_relay cell.command then Backward cell.body else Answered cell.body

abbrev pub queued_back_state : Rules → List Event → State → ℕ → CircuitCell → CircuitState → State
queued_back_state rules ev s c cell x = with_settled s c (settle_event rules (hop_event cell) (unsettled ev s x))

-- A circuit whose leg k has lost its CircID, if the cell is a DESTROY.
abbrev pub without_leg : ℕ → CircuitState → CircuitState
without_leg k x = record x { legs = with_slot x.legs k None }

abbrev pub behind_destroy : CircuitCell → ℕ → CircuitState → CircuitState
behind_destroy cell k x = if is_destroy cell.command then without_leg k x else x

-- The switch with it, before the circuit is torn down.
abbrev pub lost_leg_state : State → ℕ → CircuitState → State
lost_leg_state s c x = record (counted s) { circuits = with_slot s.circuits c (Some x) }

-- The circuit's events behind the cell, which was taken on leg k.
abbrev pub events_taken : Rules → ℕ → CircuitCell → TakeAnswer → List Event → List Event
events_taken rules k cell answer ev = if is_hop k then taken_from_hop rules cell answer ev else ev

abbrev pub leg_state : Rules → List Event → State → Leg → CircuitCell → CircuitState → TakeAnswer → State
leg_state rules ev s leg cell x TakeAnswer.Queued =
    if is_hop leg.number then queued_back_state rules ev s leg.circ cell x else queued_forth_state s leg.circ cell x
leg_state rules ev s leg cell x (TakeAnswer.Down circ reason) =
    torn_state rules (events_taken rules leg.number cell (TakeAnswer.Down circ reason) ev)
    (lost_leg_state s leg.circ (behind_destroy cell leg.number x)) leg.circ reason (behind_destroy cell leg.number x)
leg_state rules ev s leg cell x answer = lost_leg_state s leg.circ (behind_destroy cell leg.number x)

-- The peer's DESTROY takes ours for the same CircID away.
abbrev pub without_destroys : ℕ → ChannelState → ChannelState
without_destroys id channel = record channel { lane = filter (λ d. not (d.id == id)) channel.lane }

abbrev pub freed_lane : State → ℕ → Cell → Option ChannelState → State
freed_lane s chan cell (Some channel) =
    if is_destroy cell.command
    then record (counted s) { channels = with_slot s.channels chan (Some (without_destroys cell.circ channel)) } else counted s
freed_lane s chan cell None = counted s

abbrev pub circuit_state : Rules → (ℕ → List Event) → State → Leg → CircuitCell → Option CircuitState → TakeAnswer → State
circuit_state rules ev s leg cell (Some x) answer = leg_state rules (ev leg.circ) s leg cell x answer
circuit_state rules ev s leg cell None answer = counted s

abbrev pub found_state : Rules → (ℕ → List Event) → State → ℕ → Cell → Option Leg → TakeAnswer → State
found_state rules ev s chan cell (Some leg) answer =
    circuit_state rules ev s leg (circuit_cell cell) (slot_at s.circuits leg.circ) answer
found_state rules ev s chan cell None answer = freed_lane s chan cell (slot_at s.channels chan)

abbrev pub take_state : Rules → (ℕ → List Event) → State → ℕ → Cell → State
take_state rules ev s chan cell =
    if is_some (slot_at s.channels chan) && is_for_circuit cell.command
    then found_state rules ev s chan cell (found_leg s chan cell.circ) (take_result rules ev s chan cell) else counted s
