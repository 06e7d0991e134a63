-- dial_done: the outcome of a dial order. Where memory is wanting it is DialMemory.
use Rattle.std.specs.Prelude.{ℕ, ◌+◌, ◌==◌, ◌&&◌, nat_le, not, List, [], ◌∷◌, ◌++◌, length, Bool, false, if◌then◌else◌, Option, Some, None, option_to_list}
use Rattle.circuit_model.specs.Events.{Event}
use Rattle.circuit_model.specs.declared.event.Event.TheVariants.{Linked, Failed}
use Rattle.circuit_model.specs.Rules.{Rules}
use Rattle.circuit_model.specs.Words.{effects}
use Rattle.tor_spec.specs.Reasons.{destroy_connect_failed}
use Rattle.tr_io.specs.declared.answers.DialAnswer.{DialAnswer}
use Rattle.tr_io.specs.declared.dials.DialOutcome.{DialOutcome}
use Rattle.tr_io.specs.declared.dials.DialStep.{DialStep}
use Rattle.tr_io.specs.declared.names.Dest.{Dest}
use Rattle.tr_io.specs.declared.names.Side.TheVariants.{WeOpened}
use Rattle.switch_model.specs.Limits.{channel_limit, given_id_base, given_id_limit}
use Rattle.switch_model.specs.Names.{chan_no, same_dest}
use Rattle.switch_model.specs.History.Channels.{is_ours}
use Rattle.switch_machine.specs.State.{ChannelState, LegState, DialState, CircuitState, State, slot_at, with_slot}
use Rattle.switch_machine.specs.Machine.{counted, filled_slots, dial_in, again_with}
use Rattle.switch_machine.specs.Calls.TearDown.{torn_state}

-- The answer.

-- Whether an order that is open is out, with the number and the destination of this one.
abbrev pub is_order : DialStep → DialState → Bool
is_order given_order dial = dial.handed_out && ((given_order.order == dial.order) && same_dest given_order.to dial.to)

abbrev pub is_out_at : DialStep → Option DialState → Bool
is_out_at given_order (Some dial) = is_order given_order dial
is_out_at given_order None = false

-- Whether the order is out: its circuit has it open.
abbrev pub is_out_in : State → DialStep → Bool
is_out_in s given_order = is_out_at given_order (dial_in s given_order.circ.0)

-- Whether a circuit can go on over a channel, if it is live: this side opened it, and it has a CircID left.
abbrev pub can_carry : Option ChannelState → Bool
can_carry (Some channel) = is_ours channel.side && not (nat_le given_id_limit channel.given_count)
can_carry None = false

-- What an outcome comes to, for an order that is out.
abbrev pub outcome_result : State → DialOutcome → DialAnswer
outcome_result s (DialOutcome.Opened slot) =
    if nat_le channel_limit (filled_slots s.channels) then DialAnswer.Full channel_limit
    else DialAnswer.Up (chan_no (length s.channels))
outcome_result s (DialOutcome.Over chan) =
    if not (can_carry (slot_at s.channels chan.0)) then DialAnswer.Closed destroy_connect_failed
    else DialAnswer.Up chan
outcome_result s DialOutcome.Failed = DialAnswer.Closed destroy_connect_failed

abbrev pub dial_done_result : State → DialStep → DialOutcome → DialAnswer
dial_done_result s given_order outcome =
    if not (is_out_in s given_order) then DialAnswer.Gone else outcome_result s outcome

-- The state behind it.

-- A channel that was dialled, on which nothing happened yet.
abbrev pub dialled_channel : Dest → ChannelState
dialled_channel to = record { side = WeOpened; to = Some to; given_count = 0; lane = [] }

-- The channels with that one, where the connection is new.
abbrev pub channels_with : Dest → DialOutcome → List (Option ChannelState) → List (Option ChannelState)
channels_with to (DialOutcome.Opened slot) channels = channels ++ Some (dialled_channel to) ∷ []
channels_with to outcome channels = channels

-- The CircID that this side gives out next on a channel, and the channel once it is given out.
abbrev pub next_id : ChannelState → ℕ
next_id channel = given_id_base + channel.given_count + 1

abbrev pub with_id_given : ChannelState → ChannelState
with_id_given channel = record channel { given_count = channel.given_count + 1 }

-- The leg towards the next hop: the cell that asks it for a circuit waits on it (tor-spec, "CREATE and CREATED
-- cells").
abbrev pub linked_leg : Rules → List Event → ℕ → ℕ → LegState
linked_leg rules ev chan id = record {
  chan = chan;
  id = id;
  queue = option_to_list (effects rules ev Linked).forth;
  count = 0;
  counted_at = 0;
}

abbrev pub linked_circuit : Rules → List Event → ℕ → ℕ → CircuitState → CircuitState
linked_circuit rules ev chan id x = record x { legs = x.legs ++ Some (linked_leg rules ev chan id) ∷ []; dial = None }

-- Circuit c, which is x, goes on over channel n of these.
abbrev pub linked_over : Rules → List Event → State → ℕ → CircuitState → List (Option ChannelState) → ℕ → Option ChannelState →
    State
linked_over rules ev s c x channels n (Some channel) = record (counted s) {
  channels = with_slot channels n (Some (with_id_given channel));
  circuits = with_slot s.circuits c (Some (linked_circuit rules ev n (next_id channel) x));
  again = again_with c None s.again;
}
linked_over rules ev s c x channels n None = counted s

abbrev pub linked_state : Rules → List Event → State → ℕ → CircuitState → List (Option ChannelState) → ℕ → State
linked_state rules ev s c x channels n = linked_over rules ev s c x channels n (slot_at channels n)

-- There is no next hop: the circuit is torn down.
abbrev pub failed_state : Rules → List Event → State → ℕ → ℕ → CircuitState → State
failed_state rules ev s c reason x = torn_state rules (Failed ∷ ev) (counted s) c reason x

abbrev pub dial_done_state_of : Rules → List Event → State → DialStep → DialOutcome → Option CircuitState → DialAnswer → State
dial_done_state_of rules ev s given_order outcome (Some x) (DialAnswer.Up n) =
    linked_state rules ev s given_order.circ.0 x (channels_with given_order.to outcome s.channels) n.0
dial_done_state_of rules ev s given_order outcome (Some x) (DialAnswer.Closed reason) =
    failed_state rules ev s given_order.circ.0 reason x
dial_done_state_of rules ev s given_order outcome (Some x) (DialAnswer.Full limit) =
    failed_state rules ev s given_order.circ.0 destroy_connect_failed x
dial_done_state_of rules ev s given_order outcome circuit answer = counted s

abbrev pub dial_done_state : Rules → (ℕ → List Event) → State → DialStep → DialOutcome → State
dial_done_state rules ev s given_order outcome =
    dial_done_state_of rules (ev given_order.circ.0) s given_order outcome (slot_at s.circuits given_order.circ.0)
    (dial_done_result s given_order outcome)
