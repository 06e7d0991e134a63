-- abandon.
use Rattle.std.specs.Prelude.{ℕ, List, Option, Some}
use Rattle.circuit_model.specs.Events.{Event}
use Rattle.circuit_model.specs.Rules.{Rules}
use Rattle.tor_spec.specs.Reasons.{destroy_internal}
use Rattle.tr_io.specs.declared.answers.BackAnswer.{BackAnswer}
use Rattle.tr_io.specs.declared.names.ClaimNote.{ClaimNote}
use Rattle.switch_machine.specs.State.{CircuitState, State, slot_at}
use Rattle.switch_machine.specs.Machine.{counted}
use Rattle.switch_machine.specs.Calls.GiveBack.{return_result}
use Rattle.switch_machine.specs.Calls.TearDown.{torn_state}

-- The answer.
abbrev pub abandon_result : ℕ → State → ClaimNote → Option ℕ → BackAnswer
abandon_result name s note place = return_result name s note place (λ x. BackAnswer.Down destroy_internal)

abbrev pub abandon_state_of : Rules → List Event → State → ClaimNote → Option CircuitState → BackAnswer → State
abandon_state_of rules ev s note (Some x) (BackAnswer.Down reason) = torn_state rules ev (counted s) note.circ.0 reason x
abandon_state_of rules ev s note circuit answer = counted s

-- The state behind it.
abbrev pub abandon_state : ℕ → Rules → (ℕ → List Event) → State → ClaimNote → Option ℕ → State
abandon_state name rules ev s note place =
    abandon_state_of rules (ev note.circ.0) s note (slot_at s.circuits note.circ.0) (abandon_result name s note place)
