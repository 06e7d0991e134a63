-- tear_down, and the teardown of one circuit by any call.
use Rattle.std.specs.Prelude.{ℕ, ◌+◌, ◌==◌, zero, suc, List, [], ◌∷◌, ◌++◌, length, if◌then◌else◌, Option, Some, None, false}
use Rattle.circuit_model.specs.Events.{Event}
use Rattle.circuit_model.specs.Rules.{Rules}
use Rattle.circuit_model.specs.Words.{log}
use Rattle.tr_io.specs.declared.answers.BackAnswer.{BackAnswer}
use Rattle.switch_model.specs.History.Circuit.{current_leg}
use Rattle.switch_model.specs.Waiting.Lanes.{Destroy, leg_reason}
use Rattle.switch_machine.specs.State.{ChannelState, LegState, CircuitState, State, slot_at, with_slot}
use Rattle.switch_machine.specs.Machine.{counted, again_with}

-- The DESTROY of one leg that has its CircID, if it lies on this channel.
abbrev pub destroy_of : ℕ → ℕ → Option LegState → List Destroy
destroy_of chan reason None = []
destroy_of chan reason (Some leg) =
    if leg.chan == chan then record { id = leg.id; reason = reason; refusal = false } ∷ [] else []

-- Those of the first legs.
abbrev pub destroys_of : List (Option LegState) → ℕ → Option ℕ → ℕ → ℕ → List Destroy
destroys_of legs chan current reason zero = []
destroys_of legs chan current reason (suc k) =
    destroys_of legs chan current reason k ++ destroy_of chan (leg_reason current reason k) (slot_at legs k)

-- Each live channel with more DESTROYs; the first of them has number n.
abbrev pub with_lanes : (ℕ → List Destroy) → ℕ → List (Option ChannelState) → List (Option ChannelState)
with_lanes put n [] = []
with_lanes put n (None ∷ channels) = None ∷ with_lanes put (n + 1) channels
with_lanes put n (Some channel ∷ channels) =
    Some (record channel { lane = channel.lane ++ put n }) ∷ with_lanes put (n + 1) channels

-- What a circuit's teardown puts into the lane of a channel, by the circuit's events behind the step.
abbrev pub torn_lane : Rules → List Event → CircuitState → ℕ → ℕ → List Destroy
torn_lane rules ev x reason chan = destroys_of x.legs chan (current_leg (log rules ev)) reason (length x.legs)

-- The switch without the circuit.
abbrev pub torn_state : Rules → List Event → State → ℕ → ℕ → CircuitState → State
torn_state rules ev s c reason x = record s {
  channels = with_lanes (torn_lane rules ev x reason) 0 s.channels;
  circuits = with_slot s.circuits c None;
  again = again_with c None s.again;
}

abbrev pub tear_down_result_of : Option CircuitState → ℕ → BackAnswer
tear_down_result_of None reason = BackAnswer.Gone
tear_down_result_of (Some x) reason = BackAnswer.Down reason

-- The answer.
abbrev pub tear_down_result : State → ℕ → ℕ → BackAnswer
tear_down_result s c reason = tear_down_result_of (slot_at s.circuits c) reason

abbrev pub tear_down_state_of : Rules → List Event → State → ℕ → ℕ → Option CircuitState → State
tear_down_state_of rules ev s c reason None = counted s
tear_down_state_of rules ev s c reason (Some x) = torn_state rules ev (counted s) c reason x

-- The state behind it.
abbrev pub tear_down_state : Rules → (ℕ → List Event) → State → ℕ → ℕ → State
tear_down_state rules ev s c reason = tear_down_state_of rules (ev c) s c reason (slot_at s.circuits c)
