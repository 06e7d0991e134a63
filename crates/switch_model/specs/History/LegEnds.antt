-- How a leg loses its CircID: this side's DESTROY leaves on it, the peer's DESTROY is taken on it, or its
-- channel goes down (tor-spec, "Tearing down circuits").
use Rattle.std.specs.Prelude.{ℕ, ◌≡◌, ◌==◌, ◌&&◌, ◌⊎◌, not, List, [], ◌∷◌, ◌++◌, Bool, true, false, if◌then◌else◌, Some}
use Rattle.circuit_model.specs.Events.{CircuitCell}
use Rattle.circuit_model.specs.Rules.{Rules}
use Rattle.circuit_model.specs.Sent.{destroy}
use Rattle.tor_spec.specs.CellCommands.{destroy_command}
use Rattle.tr_io.specs.declared.answers.BackAnswer.{BackAnswer}
use Rattle.tr_io.specs.declared.step.Step.{Step}
use Rattle.tr_io.specs.declared.step.Step.TheVariants.{ChannelDown, Take, NextCell}
use Rattle.switch_model.specs.Names.{is_leg, circuit_cell}
use Rattle.switch_model.specs.History.Legs.{port, on_channel, at, holds_id}
use Rattle.switch_model.specs.History.Circuit.{is_live_circuit}

-- Whether this side's DESTROY left on leg k of circuit c. In a live circuit it is the last cell that the
-- one-thread relay sends on the leg.
abbrev pub is_ended_by_us : List Step → ℕ → ℕ → Bool
is_ended_by_us [] c k = false
is_ended_by_us (NextCell n tick (Some cell) ∷ h) c k =
    if is_leg c k (at h n.0 cell.circ) && (cell.command == destroy_command) then true else is_ended_by_us h c k
is_ended_by_us (s ∷ h) c k = is_ended_by_us h c k

-- Whether the peer or the channel ended the leg. What waited on it then was never sent.
abbrev pub is_ended_outside : List Step → ℕ → ℕ → Bool
is_ended_outside [] c k = false
is_ended_outside (Take n cell answer ∷ h) c k =
    if is_leg c k (at h n.0 cell.circ) && (cell.command == destroy_command) then true else is_ended_outside h c k
is_ended_outside (ChannelDown n BackAnswer.Settled ∷ h) c k =
    if holds_id h c k && on_channel n.0 (port h c k) then true else is_ended_outside h c k
is_ended_outside (s ∷ h) c k = is_ended_outside h c k

-- The cells that left on leg k of circuit c once the circuit was torn down, oldest first.
abbrev pub sent_torn : Rules → List Step → ℕ → ℕ → List CircuitCell
sent_torn rules [] c k = []
sent_torn rules (NextCell n tick (Some cell) ∷ h) c k =
    if is_leg c k (at h n.0 cell.circ) && not (is_live_circuit rules h c)
    then sent_torn rules h c k ++ circuit_cell cell ∷ [] else sent_torn rules h c k
sent_torn rules (s ∷ h) c k = sent_torn rules h c k

-- There are none, or there is one, which is a DESTROY.
abbrev pub IsOneDestroy : List CircuitCell → Type 0
IsOneDestroy cells = (cells ≡ []) ⊎ ((reason : ℕ) × (cells ≡ destroy reason ∷ []))
