-- next_cell.
use Rattle.std.specs.Prelude.{ℕ, ◌+◌, ◌-◌, ◌==◌, ◌&&◌, zero, suc, max, List, [], ◌∷◌, ◌++◌, length, Bool, false, if◌then◌else◌, Option, Some, None}
use Rattle.cell_codec.specs.declared.cell.Cell.{Cell}
use Rattle.circuit_model.specs.Events.{CircuitCell}
use Rattle.tor_spec.specs.CellCommands.{destroy_command}
use Rattle.switch_model.specs.Names.{Leg}
use Rattle.switch_model.specs.Waiting.Lanes.{Destroy}
use Rattle.switch_model.specs.Waiting.Counts.{halved, charged, some_in, least_of}
use Rattle.switch_model.specs.Answers.NextCell.{destroy_or, first_of_queue}
use Rattle.switch_machine.specs.State.{ChannelState, LegState, CircuitState, State, slot_at, with_slot}
use Rattle.switch_machine.specs.Machine.{counted, leg_at, leg_in, legs_of}

-- A tick that is given is in force from then on, unless a greater one was.
abbrev pub ticked : State → ℕ → State
ticked s new_tick = record (counted s) { tick = max s.tick new_tick }

-- A leg's count where this tick is in force.
abbrev pub count_of : ℕ → LegState → ℕ
count_of now leg = halved leg.count (now - leg.counted_at)

-- The same of a leg that may be gone.
abbrev pub count_of_found : ℕ → Option LegState → ℕ
count_of_found now (Some leg) = count_of now leg
count_of_found now None = 0

-- The count of a leg of the switch where this tick is given.
abbrev pub cell_count_in : State → ℕ → Leg → ℕ
cell_count_in s new_tick leg = count_of_found (max s.tick new_tick) (leg_in s leg)

-- The legs of a channel on which cells wait, by circuit number and then by leg number.

-- Whether cells wait on a leg on this channel.
abbrev pub waits_on : ℕ → Option LegState → Bool
waits_on chan (Some leg) = (leg.chan == chan) && some_in leg.queue
waits_on chan None = false

-- Those among the first legs of circuit c.
abbrev pub waiting_in : ℕ → ℕ → Option CircuitState → ℕ → List Leg
waiting_in chan c circuit zero = []
waiting_in chan c circuit (suc k) =
    waiting_in chan c circuit k
    ++ (if waits_on chan (leg_at circuit k) then record { circ = c; number = k } ∷ [] else [])

-- Those of the first circuits.
abbrev pub waiting_before : State → ℕ → ℕ → List Leg
waiting_before s chan zero = []
waiting_before s chan (suc c) =
    waiting_before s chan c
    ++ waiting_in chan c (slot_at s.circuits c) (legs_of (slot_at s.circuits c))

-- All of them.
abbrev pub waiting_on : State → ℕ → List Leg
waiting_on s chan = waiting_before s chan (length s.circuits)

-- The leg that is served next.
abbrev pub picked_leg : State → ℕ → ℕ → Option Leg
picked_leg s chan new_tick = least_of (cell_count_in s new_tick) (waiting_on s chan)

-- The first cell that waits on a leg.
abbrev pub first_cell : Option LegState → Option Cell
first_cell (Some leg) = first_of_queue leg.id leg.queue
first_cell None = None

-- The same of a leg that was picked.
abbrev pub cell_of_leg : State → Option Leg → Option Cell
cell_of_leg s (Some leg) = first_cell (leg_in s leg)
cell_of_leg s None = None

abbrev pub next_result_on : State → ℕ → ℕ → Option ChannelState → Option Cell
next_result_on s chan new_tick (Some channel) =
    destroy_or channel.lane (cell_of_leg s (picked_leg s chan new_tick))
next_result_on s chan new_tick None = None

-- The cell that leaves: the oldest DESTROY of the lane, else that of the picked leg.
abbrev pub next_cell_result : State → ℕ → ℕ → Option Cell
next_cell_result s chan new_tick = next_result_on s chan new_tick (slot_at s.channels chan)

-- A leg that sent its first cell: charged at the tick in force, or gone with its DESTROY.
abbrev pub sent_first : ℕ → LegState → List CircuitCell → Option LegState
sent_first now leg [] = Some leg
sent_first now leg (cell ∷ cells) =
    if cell.command == destroy_command then None
    else Some (record leg { queue = cells; count = charged (count_of now leg); counted_at = now })

-- One more cell was sent on leg 0, if this is it.
abbrev pub sent_after : ℕ → ℕ → ℕ
sent_after zero count = count + 1
sent_after (suc k) count = count

-- The circuit with the leg as it is behind its first cell.
abbrev pub circuit_sent : ℕ → ℕ → CircuitState → LegState → List CircuitCell → CircuitState
circuit_sent now k circuit leg [] = circuit
circuit_sent now k circuit leg (cell ∷ cells) = record circuit {
  sent_count = sent_after k circuit.sent_count;
  legs = with_slot circuit.legs k (sent_first now leg (cell ∷ cells));
}

-- The switch with it.
abbrev pub with_leg : State → ℕ → Leg → Option CircuitState → Option LegState → State
with_leg s now leg (Some circuit) (Some found) =
    record s { circuits = with_slot s.circuits leg.circ (Some (circuit_sent now leg.number circuit found found.queue)) }
with_leg s now leg circuit found = s

abbrev pub sent_from : State → ℕ → Option Leg → State
sent_from s now (Some leg) = with_leg s now leg (slot_at s.circuits leg.circ) (leg_in s leg)
sent_from s now None = s

abbrev pub next_state_on : State → ℕ → ℕ → Option ChannelState → List Destroy → State
next_state_on s chan new_tick (Some channel) (d ∷ lane) =
    record (ticked s new_tick) { channels = with_slot s.channels chan (Some (record channel { lane = lane })) }
next_state_on s chan new_tick (Some channel) [] =
    sent_from (ticked s new_tick) (max s.tick new_tick) (picked_leg s chan new_tick)
next_state_on s chan new_tick None lane = ticked s new_tick

abbrev pub lane_of : Option ChannelState → List Destroy
lane_of (Some channel) = channel.lane
lane_of None = []

-- The state behind it.
abbrev pub next_cell_state : State → ℕ → ℕ → State
next_cell_state s chan new_tick =
    next_state_on s chan new_tick (slot_at s.channels chan) (lane_of (slot_at s.channels chan))
