-- The switch as a machine. Each call has a file of its own, with two functions of the state and the
-- call's arguments: what it answers, and the state after it.
use Rattle.std.specs.Prelude.{ℕ, ◌+◌, ◌==◌, ◌&&◌, not, is_some, List, [], length, Bool, false, if◌then◌else◌, Option, Some, None}
use Rattle.std.specs.List.{filter, list_any}
use Rattle.circuit_model.specs.Events.{CircuitCell}
use Rattle.tr_io.specs.declared.names.ClaimNote.{ClaimNote}
use Rattle.tr_io.specs.declared.names.Dir.{Dir}
use Rattle.tr_io.specs.declared.names.Dir.TheVariants.{Forth, Back}
use Rattle.switch_model.specs.Names.{Leg}
use Rattle.switch_model.specs.History.Channels.{count_below}
use Rattle.switch_machine.specs.State.{LegState, KeptClaim, WayState, DialState, CircuitState, State, slot_at}

-- The state of a new switch.
abbrev pub new_state : State
new_state = record {
  steps = 0;
  channels = [];
  circuits = [];
  claims = 0;
  bodies = 0;
  dial_orders = 0;
  again = [];
  tick = 0;
  slots = [];
  last_closes = [];
  halts = 0;
  least_halt = None;
}

-- One more step, and nothing else.
abbrev pub counted : State → State
counted s = record s { steps = s.steps + 1 }

-- How many places are filled.
abbrev pub filled_slots : {A : Type 0} → List (Option A) → ℕ
filled_slots slots = count_below (λ n. is_some (slot_at slots n)) (length slots)

-- A circuit's leg with this number, if it has its CircID.
abbrev pub leg_at : Option CircuitState → ℕ → Option LegState
leg_at (Some circuit) k = slot_at circuit.legs k
leg_at None k = None

-- The same in the whole switch.
abbrev pub leg_in : State → Leg → Option LegState
leg_in s leg = leg_at (slot_at s.circuits leg.circ) leg.number

-- How many legs a circuit had.
abbrev pub legs_of : Option CircuitState → ℕ
legs_of (Some circuit) = length circuit.legs
legs_of None = 0

-- A direction of a circuit.
abbrev pub way_of_circuit : CircuitState → Dir → WayState
way_of_circuit circuit Forth = circuit.forth
way_of_circuit circuit Back = circuit.back

-- The note of the claim that is out, and its bodies.
abbrev pub kept_note : Option KeptClaim → Option ClaimNote
kept_note (Some claim_out) = Some claim_out.note
kept_note None = None

abbrev pub kept_cells : Option KeptClaim → List CircuitCell
kept_cells (Some claim_out) = claim_out.cells
kept_cells None = []

-- A circuit's open dial order.
abbrev pub dial_at : Option CircuitState → Option DialState
dial_at (Some circuit) = circuit.dial
dial_at None = None

-- The same of a circuit of the switch.
abbrev pub dial_in : State → ℕ → Option DialState
dial_in s c = dial_at (slot_at s.circuits c)

-- Whether an order, if one is open, was handed out.
abbrev pub is_handed_out : Option DialState → Bool
is_handed_out (Some dial) = dial.handed_out
is_handed_out None = false

-- Whether a number is among some.
abbrev pub is_among : ℕ → List ℕ → Bool
is_among n numbers = list_any (λ m. m == n) numbers

-- The circuits whose order is handed out again, where the open order of this one is now this.
abbrev pub again_with : ℕ → Option DialState → List ℕ → List ℕ
again_with c dial again = if is_handed_out dial then again else filter (λ d. not (d == c)) again

-- Whether a leg has this CircID on this channel.
abbrev pub has_port : ℕ → ℕ → Option LegState → Bool
has_port chan id (Some leg) = (leg.chan == chan) && (leg.id == id)
has_port chan id None = false
