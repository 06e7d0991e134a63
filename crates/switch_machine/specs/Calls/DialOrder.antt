-- dial_order.
use Rattle.std.specs.Prelude.{ℕ, zero, suc, nat_lt, List, [], ◌∷◌, length, Bool, true, false, if◌then◌else◌, Option, Some, None, option_map}
use Rattle.std.specs.Option.{option_or}
use Rattle.tr_io.specs.declared.dials.DialStep.{DialStep}
use Rattle.tr_io.specs.declared.names.Dest.{Dest}
use Rattle.switch_model.specs.Names.{chan_no, circ_no}
use Rattle.switch_model.specs.Waiting.Dials.{is_dest}
use Rattle.switch_machine.specs.State.{ChannelState, DialState, CircuitState, State, slot_at, with_slot}
use Rattle.switch_machine.specs.Machine.{counted, dial_in}

-- An order that is open, with its circuit.
pub record OpenDial : Type 0 where
  pub circ : ℕ
  pub dial : DialState

abbrev pub dial_of : ℕ → DialState → OpenDial
dial_of c dial = record { circ = c; dial = dial }

-- The oldest order that waits: the one with the least number of those that were never handed out.

abbrev pub waiting_of : ℕ → Option DialState → Option OpenDial
waiting_of c None = None
waiting_of c (Some dial) = if dial.handed_out then None else Some (dial_of c dial)

-- The older of two.
abbrev pub older : Option OpenDial → Option OpenDial → Option OpenDial
older best None = best
older None (Some next) = Some next
older (Some best) (Some next) = if nat_lt next.dial.order best.dial.order then Some next else Some best

-- Of the first circuits.
abbrev pub oldest_below : State → ℕ → Option OpenDial
oldest_below s zero = None
oldest_below s (suc c) = older (oldest_below s c) (waiting_of c (dial_in s c))

abbrev pub oldest_dial : State → Option OpenDial
oldest_dial s = oldest_below s (length s.circuits)

-- The order that is handed out: that of the first circuit whose order is handed out again, where there is
-- one, else the oldest that waits.
abbrev pub next_dial_by : State → List ℕ → Option OpenDial
next_dial_by s [] = oldest_dial s
next_dial_by s (c ∷ again) = option_map (dial_of c) (dial_in s c)

abbrev pub next_dial : State → Option OpenDial
next_dial s = next_dial_by s s.again

-- Whether a channel, if it is live, was dialled to a destination.
abbrev pub is_dialled_to : Dest → Option ChannelState → Bool
is_dialled_to to (Some channel) = is_dest to channel.to
is_dialled_to to None = false

-- The first of them below a number.
abbrev pub dialled_below : List (Option ChannelState) → Dest → ℕ → Option ℕ
dialled_below channels to zero = None
dialled_below channels to (suc n) =
    option_or (dialled_below channels to n) (if is_dialled_to to (slot_at channels n) then Some n else None)

-- An order as it is handed out, with a channel over which its circuit can go on.
abbrev pub order_step : State → OpenDial → DialStep
order_step s given = record {
  order = given.dial.order;
  circ = circ_no given.circ;
  to = given.dial.to;
  over = option_map chan_no (dialled_below s.channels given.dial.to (length s.channels));
}

-- The answer.
abbrev pub dial_order_result : State → Option DialStep
dial_order_result s = option_map (order_step s) (next_dial s)

-- A circuit whose order was handed out.
abbrev pub dial_out : DialState → DialState
dial_out dial = record dial { handed_out = true }

abbrev pub circuit_dialled : CircuitState → CircuitState
circuit_dialled x = record x { dial = option_map dial_out x.dial }

-- The switch with it.
abbrev pub dialled_state : State → Option OpenDial → State
dialled_state s None = counted s
dialled_state s (Some given) =
    record (counted s) { circuits = with_slot s.circuits given.circ (option_map circuit_dialled (slot_at s.circuits given.circ)) }

-- An order that is handed out again was handed out before.
abbrev pub dial_order_state_by : State → List ℕ → State
dial_order_state_by s [] = dialled_state s (oldest_dial s)
dial_order_state_by s (c ∷ again) = record (counted s) { again = again }

-- The state behind it.
abbrev pub dial_order_state : State → State
dial_order_state s = dial_order_state_by s s.again
