-- abandon is one step.
use Rattle.std.proofs.Common.{◌≡◌, ℕ, ◌+◌, List, Option, Some, None, refl}
use Rattle.circuit_model.specs.Events.{Event}
use Rattle.circuit_model.specs.Rules.{Rules}
use Rattle.switch_machine.proofs.Abandon.Kept.{abandon_kept}
use Rattle.switch_machine.specs.Adds.{AddsTo}
use Rattle.switch_machine.specs.Calls.Abandon.{abandon_result, abandon_state, abandon_state_of}
use Rattle.switch_machine.specs.State.{CircuitState, State, slot_at}
use Rattle.switch_model.specs.History.Circuit.{events}
use Rattle.switch_model.specs.Start.{SwitchStart}
use Rattle.tr_io.specs.declared.answers.BackAnswer.{BackAnswer}
use Rattle.tr_io.specs.declared.names.ClaimNote.{ClaimNote}
use Rattle.tr_io.specs.declared.step.Step.{Step}
use Rattle.tr_io.specs.declared.step.Step.TheVariants.{Abandon}

steps-by : (rules : Rules) (ev : List Event) (s : State) (n : ClaimNote) (x : Option CircuitState) (a : BackAnswer)
    → (abandon_state_of rules ev s n x a).steps ≡ s.steps + 1
steps-by rules ev s n None a = refl
steps-by rules ev s n (Some x) BackAnswer.Settled = refl
steps-by rules ev s n (Some x) (BackAnswer.Down reason) = refl
steps-by rules ev s n (Some x) BackAnswer.Gone = refl
steps-by rules ev s n (Some x) (BackAnswer.Stranger why) = refl

pub abandon_adds : (start : SwitchStart) (h : List Step) (old new : State) (n : ClaimNote) (place : Option ℕ) (a : BackAnswer)
    → new ≡ abandon_state start.name start.rules (events start.rules h) old n place → a ≡ abandon_result start.name old n place →
    AddsTo start h old new (Abandon n place a)
unfolding AddsTo
abandon_adds start h old new n place a e f = rw (e, f) (record {
  steps = steps-by start.rules (events start.rules h n.circ.0) old n (slot_at old.circuits n.circ.0)
      (abandon_result start.name old n place);
  stands = λ st. abandon_kept start old h n place st;
})
