-- What a channel owes, and when nothing is under way for a circuit.
use Rattle.std.specs.Prelude.{ℕ, ◌≡◌, ◌++◌, List, [], ◌∷◌, map, IsTrue, IsFalse, None}
use Rattle.circuit_model.specs.Events.{CircuitCell}
use Rattle.circuit_model.specs.Rules.{Rules}
use Rattle.circuit_model.specs.Sent.{destroy}
use Rattle.tr_io.specs.declared.names.Dir.{Dir}
use Rattle.tr_io.specs.declared.step.Step.{Step}
use Rattle.switch_model.specs.Names.{Leg, Way}
use Rattle.switch_model.specs.History.Channels.{is_live_channel}
use Rattle.switch_model.specs.Waiting.Queues.{queue}
use Rattle.switch_model.specs.History.Circuit.{is_live_circuit}
use Rattle.switch_model.specs.Waiting.Lanes.{lane}
use Rattle.switch_model.specs.Waiting.Claims.{claim_out, is_ready}
use Rattle.switch_model.specs.Waiting.Counts.{waiting_legs}

-- The queues of some legs.
abbrev pub queues_of : Rules → List Step → List Leg → List CircuitCell
queues_of rules h [] = []
queues_of rules h (leg ∷ legs) = queue rules h leg.circ leg.number ++ queues_of rules h legs

-- All that waits on a channel: the DESTROYs of its lane and the queues of its legs.
abbrev pub owed_cells : Rules → List Step → ℕ → List CircuitCell
owed_cells rules h chan =
    map (λ d. destroy d.reason) (lane rules h chan) ++ queues_of rules h (waiting_legs rules h chan)

-- The circuit is live, neither of its directions is out, no direction of the switch is ready, and no
-- live channel owes a cell.
pub record IsAtRest (rules : Rules) (h : List Step) (c : ℕ) : Type 0 where
  pub live : IsTrue (is_live_circuit rules h c)
  pub home : (dir : Dir) → claim_out h (record { circ = c; dir = dir }) ≡ None
  pub idle : (way : Way) → IsFalse (is_ready rules h way)
  pub empty : (chan : ℕ) → IsTrue (is_live_channel h chan) → owed_cells rules h chan ≡ []
