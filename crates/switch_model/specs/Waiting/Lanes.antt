-- The DESTROYs that wait on a channel, in a lane of their own (tor-spec, "Tearing down circuits").
use Rattle.std.specs.Prelude.{ℕ, ◌+◌, ◌==◌, zero, suc, nat_le, not, List, [], ◌∷◌, ◌++◌, Bool, true, false, if◌then◌else◌, Option, Some, None, drop, filter, count_by}
use Rattle.circuit_model.specs.Rules.{Rules}
use Rattle.tor_spec.specs.Reasons.{destroy_protocol, destroy_requested, destroy_resource_limit}
use Rattle.tr_io.specs.declared.answers.BackAnswer.{BackAnswer}
use Rattle.tr_io.specs.declared.answers.OpenAnswer.TheVariants.{Refused}
use Rattle.tr_io.specs.declared.answers.OpenRefusal.{OpenRefusal}
use Rattle.tr_io.specs.declared.step.Step.{Step}
use Rattle.tr_io.specs.declared.step.Step.TheVariants.{ChannelDown, OpenCircuit, Take, NextCell}
use Rattle.switch_model.specs.Limits.{refusal_limit}
use Rattle.switch_model.specs.History.Channels.{channel_at, opened_by_us}
use Rattle.switch_model.specs.History.Legs.{Port, port, circuits, hops, is_destroy_for, holds_id}
use Rattle.switch_model.specs.Waiting.Queues.{circuit_log}
use Rattle.switch_model.specs.History.Circuit.{is_live_circuit, current_leg, lies_on}
use Rattle.switch_model.specs.History.Teardowns.{Teardown, NoTeardown, OneCircuit, OnChannel, teardown, reason_of}

-- A DESTROY that waits, and whether it is the answer to a refused opening.
pub record Destroy : Type 0 where
  pub id : ℕ
  pub reason : ℕ
  pub refusal : Bool

-- The DESTROY of a refused opening, if one is owed: not to a CircID that is 0, in use, or this side's
-- to give out.
abbrev pub refusal_reason : Bool → ℕ → OpenRefusal → Option ℕ
refusal_reason ours id OpenRefusal.BadId = if ours then None else if id == 0 then None else Some destroy_protocol
refusal_reason ours id OpenRefusal.BadHandshake = Some destroy_protocol
refusal_reason ours id (OpenRefusal.Full n) = Some destroy_resource_limit
refusal_reason ours id refusal = None

-- Where so many refusals wait already, none is put.
abbrev pub with_refusal : ℕ → Option ℕ → List Destroy → List Destroy
with_refusal id None lane = lane
with_refusal id (Some reason) lane =
    if nat_le refusal_limit (count_by (λ d. d.refusal) lane) then lane
    else lane ++ record { id = id; reason = reason; refusal = true } ∷ []

-- What a step leaves of a lane: a cell that leaves is its oldest DESTROY, the peer's DESTROY takes
-- ours for the same CircID away, and a channel that goes down has none.
abbrev pub lane_left : Step → ℕ → List Destroy → List Destroy
lane_left (NextCell n tick (Some cell)) chan lane = if n.0 == chan then drop 1 lane else lane
lane_left (Take n cell answer) chan lane = filter (λ d. not (is_destroy_for n cell chan d.id)) lane
lane_left (ChannelDown n BackAnswer.Settled) chan lane = if n.0 == chan then [] else lane
lane_left s chan lane = lane

-- The reason for one leg of a circuit that is torn down with this reason: leg 0 and the current leg
-- have it, a draining leg has its DESTROY 3.
abbrev pub leg_reason : Option ℕ → ℕ → ℕ → ℕ
leg_reason current reason zero = reason
leg_reason (Some k) reason (suc n) = if k == suc n then reason else destroy_requested
leg_reason None reason (suc n) = destroy_requested

-- One leg, if it lies on this channel.
abbrev pub destroy_at : ℕ → ℕ → Option Port → List Destroy
destroy_at chan reason (Some place) =
    if place.chan == chan then record { id = place.id; reason = reason; refusal = false } ∷ [] else []
destroy_at chan reason None = []

-- The DESTROYs for the first legs of circuit c on a channel, in order of leg number. A leg that lost
-- its CircID in this very step, by the peer's DESTROY or the channel's end, gets none: so a leg's port
-- is that of the history before the step, and the history after it tells whether the leg has it.
abbrev pub leg_destroys : List Step → List Step → ℕ → ℕ → Option ℕ → ℕ → ℕ → List Destroy
leg_destroys before after c chan current reason zero = []
leg_destroys before after c chan current reason (suc k) =
    leg_destroys before after c chan current reason k
    ++ (if holds_id after c k then destroy_at chan (leg_reason current reason k) (port before c k) else [])

-- The DESTROYs of a circuit that a step tears down with this reason, if it does, by the history before
-- the step and after it. Before: whether the circuit is live, and where its legs lie. After: which legs
-- still have their CircIDs, and which of them is the current one, since a TRUNCATE among the bodies that
-- the step settles makes it a draining leg.
abbrev pub circuit_destroys : Rules → List Step → List Step → ℕ → ℕ → Option ℕ → List Destroy
circuit_destroys rules before after c chan None = []
circuit_destroys rules before after c chan (Some reason) =
    if is_live_circuit rules before c
    then leg_destroys before after c chan (current_leg (circuit_log rules after c)) reason (hops before c + 1)
    else []

-- The same for the first circuits, in order of circuit number. Which of them a channel's end tears
-- down is asked of the history before the step.
abbrev pub all_destroys : Rules → List Step → List Step → ℕ → Teardown → ℕ → List Destroy
all_destroys rules before after chan torn zero = []
all_destroys rules before after chan torn (suc c) =
    all_destroys rules before after chan torn c
    ++ circuit_destroys rules before after c chan (reason_of c (lies_on before c (circuit_log rules before c)) torn)

-- A lane with the DESTROYs that the teardowns of a step put into it.
abbrev pub with_torn : Rules → List Step → List Step → ℕ → Teardown → List Destroy → List Destroy
with_torn rules before after chan NoTeardown lane = lane
with_torn rules before after chan (OneCircuit c reason) lane =
    lane ++ circuit_destroys rules before after c chan (Some reason)
with_torn rules before after chan (OnChannel n) lane =
    lane ++ all_destroys rules before after chan (OnChannel n) (circuits before)

-- The lane of a channel, oldest first: the DESTROYs that were put and have neither left nor gone.
abbrev pub lane : Rules → List Step → ℕ → List Destroy
lane rules [] chan = []
lane rules (OpenCircuit n id reply keys pad (Refused why) ∷ h) chan =
    if n.0 == chan then with_refusal id (refusal_reason (opened_by_us (channel_at h chan)) id why) (lane rules h chan)
    else lane rules h chan
lane rules (s ∷ h) chan = with_torn rules h (s ∷ h) chan (teardown s) (lane_left s chan (lane rules h chan))
