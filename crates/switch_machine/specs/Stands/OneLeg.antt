-- One leg of a circuit: what was sent on it and what waits is what may leave.
use Rattle.std.specs.Prelude.{ℕ, ◌≡◌, List, ◌++◌, Bool, true, false, Option, Some, None}
use Rattle.circuit_model.specs.Events.{CircuitCell}
use Rattle.circuit_model.specs.Rules.{Rules}
use Rattle.circuit_model.specs.Words.{log}
use Rattle.switch_model.specs.History.Legs.{Port}
use Rattle.switch_model.specs.History.Past.{Past}
use Rattle.switch_model.specs.Waiting.Queues.{sendable}
use Rattle.switch_machine.specs.State.{LegState}

-- A leg that has its CircID.
pub record LegHas (leg : LegState) (sent may_leave : List CircuitCell) (lies : Option Port) (has_id : Bool) : Type 0 where
  pub holds : has_id ≡ true
  pub port : lies ≡ Some (record { chan = leg.chan; id = leg.id })
  pub cells : sent ++ leg.queue ≡ may_leave

-- By what the state has of a leg: what was sent, what may leave, where the leg lies, and whether it has its
-- CircID. A leg that the state doesn't have lost its CircID, or was never made.
abbrev pub LegBy : Option LegState → List CircuitCell → List CircuitCell → Option Port → Bool → Type 0
LegBy None sent may_leave lies has_id = has_id ≡ false
LegBy (Some leg) sent may_leave lies has_id = LegHas leg sent may_leave lies has_id

-- The same by the past of the circuit.

-- What may leave on leg k.
abbrev pub sendable_by : Rules → Past → ℕ → List CircuitCell
sendable_by rules p k = sendable (log rules p.events) p.sealed_count k

abbrev pub LegStands : Rules → LegState → ℕ → Past → Bool → Type 0
LegStands rules leg k p has_id = LegHas leg (p.sent k) (sendable_by rules p k) (p.port k) has_id

abbrev pub LegAt : Rules → Option LegState → ℕ → Past → Bool → Type 0
LegAt rules leg k p has_id = LegBy leg (p.sent k) (sendable_by rules p k) (p.port k) has_id
