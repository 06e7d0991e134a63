-- The answer to `tear_down`.
use Rattle.std.specs.Prelude.{ℕ, not, List, if◌then◌else◌}
use Rattle.circuit_model.specs.Rules.{Rules}
use Rattle.tr_io.specs.declared.answers.BackAnswer.{BackAnswer}
use Rattle.tr_io.specs.declared.step.Step.{Step}
use Rattle.switch_model.specs.History.Circuit.{is_live_circuit}

-- Tearing a circuit down with a reason.
abbrev pub tear_down_answer : Rules → List Step → ℕ → ℕ → BackAnswer
tear_down_answer rules h c reason =
    if not (is_live_circuit rules h c) then BackAnswer.Gone
    else BackAnswer.Down reason
