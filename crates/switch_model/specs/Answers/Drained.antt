-- The answer to `drained`. The first line that fits holds.
use Rattle.std.specs.Prelude.{nat_le, not, List, if◌then◌else◌}
use Rattle.circuit_model.specs.declared.event.Event.TheVariants.{Drained}
use Rattle.circuit_model.specs.Places.{is_live_phase}
use Rattle.circuit_model.specs.Rules.{Rules}
use Rattle.circuit_model.specs.Windows.{drained_count}
use Rattle.circuit_model.specs.Words.{packages_back}
use Rattle.tr_io.specs.declared.answers.EdgeAnswer.{EdgeAnswer}
use Rattle.tr_io.specs.declared.answers.EdgeAnswer.TheVariants.{Counted, Gone}
use Rattle.tr_io.specs.declared.names.StreamKey.{StreamKey}
use Rattle.tr_io.specs.declared.step.Step.{Step}
use Rattle.switch_model.specs.History.Circuit.{is_live_circuit, events}
use Rattle.switch_model.specs.Waiting.Queues.{circuit_log}
use Rattle.switch_model.specs.Waiting.Orders.{carried_out}
use Rattle.switch_model.specs.Answers.EdgeIn.{phase_of, packed}

-- A DATA is drained after its Carry was handed out, once each.
abbrev pub drained_answer : Rules → List Step → StreamKey → EdgeAnswer
drained_answer rules h key =
    if not (is_live_circuit rules h key.circ.0) then Gone
    else if not (is_live_phase (phase_of (circuit_log rules h key.circ.0) key)) then Gone
    else if nat_le (carried_out h key.circ.0 key.serial) (drained_count (circuit_log rules h key.circ.0) key.serial) then Gone
    else if packages_back rules (events rules h key.circ.0) (Drained key.serial) then packed rules h key.circ.0
    else Counted
