-- give_back is one step.
use Rattle.std.proofs.Common.{◌≡◌, ℕ, ◌+◌, List, Option, Some, None, refl}
use Rattle.circuit_model.specs.Events.{Event}
use Rattle.circuit_model.specs.Rules.{Rules}
use Rattle.switch_machine.proofs.GiveBack.Kept.{give_back_kept}
use Rattle.switch_machine.specs.Adds.{AddsTo}
use Rattle.switch_machine.specs.Calls.GiveBack.{done_state, give_back_result, give_back_state, give_back_state_of}
use Rattle.switch_machine.specs.State.{CircuitState, State, slot_at}
use Rattle.switch_model.specs.History.Circuit.{events}
use Rattle.switch_model.specs.Start.{SwitchStart}
use Rattle.tr_io.specs.declared.answers.BackAnswer.{BackAnswer}
use Rattle.tr_io.specs.declared.names.ClaimNote.{ClaimNote}
use Rattle.tr_io.specs.declared.names.Dir.{Dir}
use Rattle.tr_io.specs.declared.names.Dir.TheVariants.{Back, Forth}
use Rattle.tr_io.specs.declared.step.Step.{Step}
use Rattle.tr_io.specs.declared.step.Step.TheVariants.{GiveBack}

done-steps : (rules : Rules) (ev : List Event) (s : State) (c : ℕ) (x : CircuitState) (d : Dir)
    → (done_state rules ev s c x d).steps ≡ s.steps + 1
done-steps rules ev s c x Forth = refl
done-steps rules ev s c x Back = refl

steps-by : (rules : Rules) (ev : List Event) (s : State) (n : ClaimNote) (x : Option CircuitState) (a : BackAnswer)
    → (give_back_state_of rules ev s n x a).steps ≡ s.steps + 1
steps-by rules ev s n None a = refl
steps-by rules ev s n (Some x) BackAnswer.Settled = done-steps rules ev s n.circ.0 x n.dir
steps-by rules ev s n (Some x) (BackAnswer.Down reason) = refl
steps-by rules ev s n (Some x) BackAnswer.Gone = refl
steps-by rules ev s n (Some x) (BackAnswer.Stranger why) = refl

pub give_back_adds : (start : SwitchStart) (h : List Step) (old new : State) (n : ClaimNote) (place : Option ℕ) (a : BackAnswer)
    → new ≡ give_back_state start.name start.rules (events start.rules h) old n place →
    a ≡ give_back_result start.name start.rules (events start.rules h) old n place → AddsTo start h old new (GiveBack n place a)
unfolding AddsTo
give_back_adds start h old new n place a e f = rw (e, f) (record {
  steps = steps-by start.rules (events start.rules h n.circ.0) old n (slot_at old.circuits n.circ.0)
      (give_back_result start.name start.rules (events start.rules h) old n place);
  stands = λ st. give_back_kept start old h n place st;
})
