-- All that a history says of one circuit, and which circuits a step concerns.
use Rattle.std.specs.Prelude.{ℕ, ◌==◌, ◌||◌, List, Bool, false, Option, Some, None, is_some}
use Rattle.circuit_model.specs.Events.{CircuitCell, Event}
use Rattle.circuit_model.specs.Rules.{Rules}
use Rattle.tr_io.specs.declared.answers.OpenAnswer.TheVariants.{Opened}
use Rattle.tr_io.specs.declared.names.ClaimNote.{ClaimNote}
use Rattle.tr_io.specs.declared.names.Dir.{Dir}
use Rattle.tr_io.specs.declared.step.OrderStep.{OrderStep}
use Rattle.tr_io.specs.declared.step.Step.{Step}
use Rattle.tr_io.specs.declared.step.Step.TheVariants.{OpenCircuit, Take, Claim, GiveBack, NextCell, EdgeIn, EdgeOut, Drained, DialDone}
use Rattle.switch_model.specs.Names.{Leg}
use Rattle.switch_model.specs.History.Legs.{Port, port, hops, at}
use Rattle.switch_model.specs.History.Taken.{taken_forth, taken_back}
use Rattle.switch_model.specs.History.Teardowns.{teardown, reason_of}
use Rattle.switch_model.specs.History.Circuit.{is_live_circuit, sent, events, lies_on}
use Rattle.switch_model.specs.Waiting.Queues.{circuit_log, sealed_count}
use Rattle.switch_model.specs.Waiting.Claims.{claimed_count, claim_out}

pub record Past : Type 0 where
  pub live : Bool
  pub events : List Event
  pub taken_forth : List CircuitCell
  pub taken_back : List (List ℕ)
  -- by leg number
  pub sent : ℕ → List CircuitCell
  pub port : ℕ → Option Port
  pub hops : ℕ
  pub sealed_count : ℕ
  -- by direction
  pub claimed_count : Dir → ℕ
  pub claim_out : Dir → Option ClaimNote

-- The past of circuit c.
abbrev pub past : Rules → List Step → ℕ → Past
past rules h c = record {
  live = is_live_circuit rules h c;
  events = events rules h c;
  taken_forth = taken_forth h c;
  taken_back = taken_back h c;
  sent = λ k. sent rules h c k;
  port = λ k. port h c k;
  hops = hops h c;
  sealed_count = sealed_count h c;
  claimed_count = λ dir. claimed_count h (record { circ = c; dir = dir });
  claim_out = λ dir. claim_out h (record { circ = c; dir = dir });
}

abbrev pub is_of_circuit : ℕ → Option Leg → Bool
is_of_circuit c (Some leg) = leg.circ == c
is_of_circuit c None = false

abbrev pub order_circuit : OrderStep → ℕ
order_circuit (OrderStep.Reach key to) = key.circ.0
order_circuit (OrderStep.Carry key octets) = key.circ.0
order_circuit (OrderStep.Close key reason) = key.circ.0

-- Whether a step names a circuit, by its number or by one of its CircIDs.
abbrev pub names_circuit : List Step → Step → ℕ → Bool
names_circuit h (OpenCircuit chan id reply keys pad (Opened n)) c = n.0 == c
names_circuit h (Take chan cell answer) c = is_of_circuit c (at h chan.0 cell.circ)
names_circuit h (Claim worker (Some note)) c = note.circ.0 == c
names_circuit h (GiveBack note place answer) c = note.circ.0 == c
names_circuit h (NextCell chan tick (Some cell)) c = is_of_circuit c (at h chan.0 cell.circ)
names_circuit h (EdgeIn key event answer) c = key.circ.0 == c
names_circuit h (EdgeOut slot (Some order)) c = order_circuit order == c
names_circuit h (Drained key answer) c = key.circ.0 == c
names_circuit h (DialDone order outcome answer) c = order.circ.0 == c
names_circuit h s c = false

-- A step concerns the circuits that it names and those that it tears down.
abbrev pub concerns : Rules → List Step → Step → ℕ → Bool
concerns rules h s c =
    names_circuit h s c || is_some (reason_of c (λ chan. lies_on h c (circuit_log rules h c) chan) (teardown s))
