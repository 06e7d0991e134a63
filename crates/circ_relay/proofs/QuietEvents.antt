-- The window after what neither the client nor bytes of the edge bring.
use Rattle.std.proofs.Common.{◌≡◌, ℕ, ◌∷◌, List, refl}
use Rattle.circuit_model.specs.declared.event.Event.TheVariants.{Backward, Connected, Ended, Drained, Freed, Linked, Answered, Failed}
use Rattle.circuit_model.specs.Rules.{Rules}
use Rattle.circuit_model.specs.Log.{Log}
use Rattle.circuit_model.specs.Words.{entry_after}
use Rattle.circ_relay.specs.WindowOfLog.{window_of}
use Rattle.circ_relay.proofs.WindowByEvent.{other_kind_leaves}

pub backward_leaves : (rules : Rules) (log : Log) (body : List ℕ)
    → window_of (entry_after rules log (Backward body) ∷ log) ≡ window_of log
backward_leaves rules log body = other_kind_leaves rules log (Backward body) refl refl (λ serial. refl)

pub connected_leaves : (rules : Rules) (log : Log) (serial : ℕ)
    → window_of (entry_after rules log (Connected serial) ∷ log) ≡ window_of log
connected_leaves rules log serial = other_kind_leaves rules log (Connected serial) refl refl (λ n. refl)

pub ended_leaves : (rules : Rules) (log : Log) (serial reason : ℕ)
    → window_of (entry_after rules log (Ended serial reason) ∷ log) ≡ window_of log
ended_leaves rules log serial reason = other_kind_leaves rules log (Ended serial reason) refl refl (λ n. refl)

pub drained_leaves : (rules : Rules) (log : Log) (serial : ℕ)
    → window_of (entry_after rules log (Drained serial) ∷ log) ≡ window_of log
drained_leaves rules log serial = other_kind_leaves rules log (Drained serial) refl refl (λ n. refl)

pub freed_leaves : (rules : Rules) (log : Log) (serial : ℕ)
    → window_of (entry_after rules log (Freed serial) ∷ log) ≡ window_of log
freed_leaves rules log serial = other_kind_leaves rules log (Freed serial) refl refl (λ n. refl)

pub linked_leaves : (rules : Rules) (log : Log) → window_of (entry_after rules log Linked ∷ log) ≡ window_of log
linked_leaves rules log = other_kind_leaves rules log Linked refl refl (λ n. refl)

pub answered_leaves : (rules : Rules) (log : Log) (payload : List ℕ)
    → window_of (entry_after rules log (Answered payload) ∷ log) ≡ window_of log
answered_leaves rules log payload = other_kind_leaves rules log (Answered payload) refl refl (λ n. refl)

pub failed_leaves : (rules : Rules) (log : Log) → window_of (entry_after rules log Failed ∷ log) ≡ window_of log
failed_leaves rules log = other_kind_leaves rules log Failed refl refl (λ n. refl)

pub ruleset quiet_events =
    (backward_leaves, connected_leaves, ended_leaves, drained_leaves, freed_leaves, linked_leaves, answered_leaves, failed_leaves)
