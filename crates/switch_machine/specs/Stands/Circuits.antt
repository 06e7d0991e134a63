-- Circuits with their legs and queues, claims, bodies, orders and dials.
use Rattle.std.specs.Prelude.{ℕ, ◌≤◌, List, length, Bool, Option}
use Rattle.circuit_model.specs.Rules.{Rules}
use Rattle.switch_model.specs.Answers.EdgeOut.{Ordered}
use Rattle.switch_model.specs.History.Past.{Past}
use Rattle.switch_model.specs.History.EdgePast.{EdgePast}
use Rattle.switch_machine.specs.State.{CircuitState, slot_at}
use Rattle.switch_machine.specs.Stands.OneCircuit.{CircuitAt, IsFresh}

pub record CircuitsStand
    (rules : Rules) (closes : List Ordered) (slots : List (Option CircuitState))
    (p : ℕ → Past) (has_id : ℕ → ℕ → Bool) (e : ℕ → EdgePast) : Type 0 where
  pub circuit : (c : ℕ) → CircuitAt rules closes (slot_at slots c) c (p c) (has_id c) (e c)
  pub fresh : (c : ℕ) → length slots ≤ c → IsFresh (p c) (e c)
