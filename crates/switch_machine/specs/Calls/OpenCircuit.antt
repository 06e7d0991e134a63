-- open_circuit.
use Rattle.std.specs.Prelude.{ℕ, ◌==◌, ◌||◌, nat_le, not, is_none, [], ◌∷◌, ◌++◌, length, Bool, false, if◌then◌else◌, Option, Some, None}
use Rattle.std.specs.List.{list_any}
use Rattle.cell_codec.specs.declared.cell.Cell.{Cell}
use Rattle.kdf_tor.specs.declared.LayerKeys.{LayerKeys}
use Rattle.tr_io.specs.declared.answers.OpenAnswer.{OpenAnswer}
use Rattle.tr_io.specs.declared.answers.OpenAnswer.TheVariants.{Opened, Refused}
use Rattle.tr_io.specs.declared.answers.OpenRefusal.{OpenRefusal}
use Rattle.tr_io.specs.declared.names.Side.{Side}
use Rattle.switch_model.specs.Limits.{given_id_base}
use Rattle.switch_model.specs.Names.{circ_no, circuit_cell}
use Rattle.switch_model.specs.History.Channels.{is_ours}
use Rattle.switch_model.specs.Waiting.Lanes.{refusal_reason, with_refusal}
use Rattle.switch_machine.specs.State.{ChannelState, LegState, WayState, CircuitState, State, slot_at, with_slot}
use Rattle.switch_machine.specs.Machine.{counted, filled_slots, has_port}

-- Whether one of these legs has this CircID.
abbrev pub circuit_has_id : ℕ → ℕ → Option CircuitState → Bool
circuit_has_id chan id (Some circuit) = list_any (has_port chan id) circuit.legs
circuit_has_id chan id None = false

-- Whether the CircID is in use: by a leg of a live circuit, or by a DESTROY that waits.
abbrev pub is_id_taken : State → ℕ → ChannelState → ℕ → Bool
is_id_taken s chan channel id =
    list_any (circuit_has_id chan id) s.circuits || list_any (λ d. d.id == id) channel.lane

-- Whether the CircID is one that the peer may choose, by the side that opened the channel.
abbrev pub has_peers_bit : Side → ℕ → Bool
has_peers_bit side id = if is_ours side then not (nat_le given_id_base id) else nat_le given_id_base id

-- The answer on a channel, where so many circuits may be live.
abbrev pub open_result_on : ℕ → State → ℕ → ℕ → Option LayerKeys → Option ChannelState → OpenAnswer
open_result_on most s chan id keys None = Refused OpenRefusal.NoChannel
open_result_on most s chan id keys (Some channel) =
    if id == 0 then Refused OpenRefusal.BadId
    else if is_id_taken s chan channel id then Refused OpenRefusal.InUse
    else if not (has_peers_bit channel.side id) then Refused OpenRefusal.BadId
    else if is_none keys then Refused OpenRefusal.BadHandshake
    else if nat_le most (filled_slots s.circuits) then Refused (OpenRefusal.Full most)
    else Opened (circ_no (length s.circuits))

-- The answer, with its refusals in order.
abbrev pub open_result : ℕ → State → ℕ → ℕ → Option LayerKeys → OpenAnswer
open_result most s chan id keys = open_result_on most s chan id keys (slot_at s.channels chan)

-- A direction that was given no bodies.
abbrev pub no_bodies : WayState
no_bodies = record { claimed_count = 0; claim_out = None; waiting_bodies = [] }

-- Leg 0, on which the answer to the opening waits.
abbrev pub first_leg : ℕ → ℕ → Cell → LegState
first_leg chan id reply = record { chan = chan; id = id; queue = circuit_cell reply ∷ []; count = 0; counted_at = 0 }

-- The circuit that is opened.
abbrev pub new_circuit : ℕ → ℕ → Cell → CircuitState
new_circuit chan id reply = record {
  sent_count = 0;
  legs = Some (first_leg chan id reply) ∷ [];
  forth = no_bodies;
  back = no_bodies;
  reach_orders = [];
  carry_orders = [];
  close_orders = [];
  dial = None;
}

-- The switch with it, where the handshake gave keys.
abbrev pub with_circuit : State → ℕ → ℕ → Cell → Option LayerKeys → State
with_circuit s chan id reply (Some keys) = record (counted s) { circuits = s.circuits ++ Some (new_circuit chan id reply) ∷ [] }
with_circuit s chan id reply None = counted s

-- A channel with the DESTROY of a refusal, if one is owed and has room.
abbrev pub refusing : ℕ → OpenRefusal → ChannelState → ChannelState
refusing id why channel =
    record channel { lane = with_refusal id (refusal_reason (is_ours channel.side) id why) channel.lane }

abbrev pub open_state_by : State → ℕ → ℕ → Cell → Option LayerKeys → Option ChannelState → OpenAnswer → State
open_state_by s chan id reply keys (Some channel) (Refused why) =
    record (counted s) { channels = with_slot s.channels chan (Some (refusing id why channel)) }
open_state_by s chan id reply keys (Some channel) (Opened n) = with_circuit s chan id reply keys
open_state_by s chan id reply keys channel answer = counted s

-- The state behind an opening.
abbrev pub open_state : ℕ → State → ℕ → ℕ → Cell → Option LayerKeys → State
open_state most s chan id reply keys =
    open_state_by s chan id reply keys (slot_at s.channels chan) (open_result most s chan id keys)
