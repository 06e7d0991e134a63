-- The answer to `abandon`.
use Rattle.std.specs.Prelude.{ℕ, List, Option}
use Rattle.tor_spec.specs.Reasons.{destroy_internal}
use Rattle.tr_io.specs.declared.answers.BackAnswer.{BackAnswer}
use Rattle.tr_io.specs.declared.answers.BackAnswer.TheVariants.{Down}
use Rattle.tr_io.specs.declared.names.ClaimNote.{ClaimNote}
use Rattle.tr_io.specs.declared.step.Step.{Step}
use Rattle.switch_model.specs.Start.{SwitchStart}
use Rattle.switch_model.specs.Answers.GiveBack.{return_answer}

-- A job that comes back undone: the circuit is torn down.
abbrev pub abandon_answer : SwitchStart → List Step → ClaimNote → Option ℕ → BackAnswer
abandon_answer start h note place = return_answer start h note place (Down destroy_internal)
