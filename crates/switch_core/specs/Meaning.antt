-- What the switch's plain lists mean as the state of the machine.
use Rattle.std.specs.Prelude.{ℕ, ◌≡◌, ◌==◌, ◌+◌, ◌-◌, ◌*◌, ◌≤◌, [], ◌∷◌, List, length, take, drop, slice_get, false, Option, Some, None}
use Rattle.cell_codec.specs.declared.cell.Cell.{Cell}
use Rattle.tr_io.specs.declared.names.ClaimNote.{ClaimNote}
use Rattle.tr_io.specs.declared.names.Side.{Side}
use Rattle.tor_spec.specs.CellCommands.{destroy_command}
use Rattle.tor_spec.specs.CellEncoding.{is_variable}
use Rattle.circuit_model.specs.Sent.{destroy}
use Rattle.switch_model.specs.Answers.NextCell.{cell_at}
use Rattle.switch_model.specs.Waiting.Lanes.{Destroy}
use Rattle.switch_model.specs.Start.{SwitchStart}
use Rattle.switch_machine.specs.State.{ChannelState, LegState, WaitingCell, WayState, CircuitState, State, slot_at, with_slot, all_there}
use Rattle.switch_machine.specs.Machine.{new_state}
use Rattle.switch_machine.specs.Calls.Claim.{waiting_cells}
use Rattle.switch_machine.specs.Calls.OpenCircuit.{refusing}
use Rattle.switch_machine.specs.Calls.Take.{kept_length}
use Rattle.tr_io.specs.declared.answers.OpenRefusal.{OpenRefusal}
use Rattle.circ_relay.specs.declared.rules.Rules.{Rules as RuleList}
use Rattle.circ_relay.specs.Values.{rules_of}
use Rattle.switch_core.specs.Ordering.{OrdersState, RoomyOrders}
use Rattle.switch_core.specs.declared.counters.Counters.{Counters}

-- What a switch was made with.
abbrev pub start_of : ℕ → RuleList → ℕ → SwitchStart
start_of name rules circuits = record { name = name; rules = rules_of rules; circuits = circuits }

-- A channel that a peer's connection brought up, or one of ours by a slot's number: it leads to no
-- known address, and no CircID was given out on it.
abbrev pub channel_of : Side → List Destroy → ChannelState
channel_of side lane = record { side = side; to = None; given_count = 0; lane = lane }

-- A leg or a direction, and for how many more cells it has room.
pub record WithRoom (A : Type 0) : Type 0 where
  pub state : A
  pub spare : ℕ

-- A cell that may wait on a leg has a fixed payload, and is no DESTROY.
pub record MayQueue (command : ℕ) : Type 0 where
  pub fixed : is_variable command ≡ false
  pub no_destroy : (command == destroy_command) ≡ false

-- A direction by the bodies that didn't come home: those of the claim that is out are the first.
abbrev pub way_of : ℕ → Option ClaimNote → List WaitingCell → WayState
way_of claimed_count None bodies = record { claimed_count = claimed_count; claim_out = None; waiting_bodies = bodies }
way_of claimed_count (Some note) bodies = record {
  claimed_count = claimed_count;
  claim_out = Some (record { note = note; cells = waiting_cells (take note.count bodies) });
  waiting_bodies = drop note.count bodies;
}

-- How many bodies of a direction came home.
abbrev pub home_count : WayState → ℕ
home_count way = way.claimed_count - kept_length way.claim_out

-- A circuit with its first leg alone. The answer to the opening and the bodies that came home sealed wait on
-- the leg or were sent.
abbrev pub circuit_of : LegState → WayState → WayState → OrdersState → CircuitState
circuit_of leg forth back orders = record {
  sent_count = 1 + home_count back - length leg.queue;
  legs = Some leg ∷ [];
  forth = forth;
  back = back;
  reach_orders = orders.reach;
  carry_orders = orders.carry;
  close_orders = orders.close;
  dial = orders.dial;
}

-- The circuit has this leg, and no other.
pub record OfLeg (x : CircuitState) (leg : LegState) : Type 0 where
  pub forth : WayState
  pub back : WayState
  pub orders : OrdersState
  pub is : x ≡ circuit_of leg forth back orders

-- What waits on the leg was the answer to the opening or came home. Each body that came home forth has
-- packaged one body back at most. There is room for what the bodies that are out will need.
pub record CircuitFits (leg : WithRoom LegState) (forth back : WithRoom WayState) (orders : RoomyOrders) : Type 0 where
  pub queued : length leg.state.queue ≤ 1 + home_count back.state
  pub packaged : back.state.claimed_count + length back.state.waiting_bodies + kept_length forth.state.claim_out
      ≤ forth.state.claimed_count
  pub room_sealed : kept_length back.state.claim_out ≤ leg.spare
  pub room_packaged : kept_length forth.state.claim_out ≤ back.spare
  pub room_ordered : kept_length forth.state.claim_out ≤ orders.spare
  pub rooms : kept_length forth.state.claim_out ≤ orders.rooms

abbrev pub no_counts : Counters
no_counts = record { steps = 0; tick = 0; bodies = 0; claims = 0; dial_orders = 0 }

abbrev pub state_of : Counters → List ChannelState → List (Option CircuitState) → State
state_of k channels circuits = record new_state {
  steps = k.steps;
  tick = k.tick;
  bodies = k.bodies;
  claims = k.claims;
  dial_orders = k.dial_orders;
  channels = all_there channels;
  circuits = circuits;
}

-- At most so many DESTROYs wait on each channel.
pub record LanesFit (most : ℕ) (channels : List ChannelState) : Type 0 where
  pub fits : (n : ℕ) (channel : ChannelState) → slice_get channels n ≡ Some channel → length channel.lane ≤ most

-- At most so many bodies were taken on each circuit.
pub record TakenFit (most : ℕ) (circuits : List (Option CircuitState)) : Type 0 where
  pub fits : (c : ℕ) (x : CircuitState) → slot_at circuits c ≡ Some x
      → x.forth.claimed_count + length x.forth.waiting_bodies ≤ most

-- What is bounded by the number of steps. A step adds 33 bodies at most: one that it takes, or those that the
-- bodies of one claim package.
pub record StepsFit (k : Counters) (channels : List ChannelState) (circuits : List (Option CircuitState)) : Type 0 where
  pub lanes : LanesFit k.steps channels
  pub taken : TakenFit k.steps circuits
  pub bodies_fit : k.bodies ≤ 33 * k.steps
  pub claims_fit : k.claims ≤ k.steps
  pub dials_fit : k.dial_orders ≤ 32 * k.steps

-- A circuit was taken out of the machine's list.
pub record TakenOut (old new : State) (c : ℕ) (circuit : CircuitState) : Type 0 where
  pub live : slot_at old.circuits c ≡ Some circuit
  pub left : new ≡ record old { circuits = with_slot old.circuits c None }
  pub again : old.again ≡ []

-- The oldest DESTROY of a channel left, as this cell.
pub record FirstLeaves (old new : ChannelState) (cell : Cell) : Type 0 where
  pub first : Destroy
  pub rest : List Destroy
  pub lane : old.lane ≡ first ∷ rest
  pub left : new ≡ record old { lane = rest }
  pub is : cell ≡ cell_at first.id (destroy first.reason)

-- A refusal on a channel, if it is live.
abbrev pub refused_on : State → ℕ → ℕ → OpenRefusal → Option ChannelState → State
refused_on s chan id why (Some channel) = record s { channels = with_slot s.channels chan (Some (refusing id why channel)) }
refused_on s chan id why None = s
