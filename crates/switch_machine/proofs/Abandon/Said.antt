-- What abandon answers is what the history tells.
use Rattle.std.proofs.Common.{◌≡◌, ℕ, List, Option, refl}
use Rattle.switch_machine.proofs.GiveBack.Said.{return-said}
use Rattle.switch_machine.specs.Calls.Abandon.{abandon_result}
use Rattle.switch_machine.specs.Stands.{Stands}
use Rattle.switch_machine.specs.State.{State}
use Rattle.switch_model.specs.Answers.Abandon.{abandon_answer}
use Rattle.switch_model.specs.Start.{SwitchStart}
use Rattle.tor_spec.specs.Reasons.{destroy_internal}
use Rattle.tr_io.specs.declared.answers.BackAnswer.{BackAnswer}
use Rattle.tr_io.specs.declared.names.ClaimNote.{ClaimNote}
use Rattle.tr_io.specs.declared.step.Step.{Step}

pub abandon_said : (start : SwitchStart) (s : State) (h : List Step) (n : ClaimNote) (place : Option ℕ) → Stands start s h
    → abandon_result start.name s n place ≡ abandon_answer start h n place
abandon_said start s h n place st =
    return-said start s h n place (λ x. BackAnswer.Down destroy_internal) (BackAnswer.Down destroy_internal) st
    (λ y found is. refl)
