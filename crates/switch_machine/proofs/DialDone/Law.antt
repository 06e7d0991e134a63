-- dial_done is one step.
use Rattle.std.proofs.Common.{List, None, Option, Some, refl, ℕ, ◌+◌, ◌≡◌}
use Rattle.circuit_model.specs.Events.{Event}
use Rattle.circuit_model.specs.Rules.{Rules}
use Rattle.switch_model.specs.History.Circuit.{events}
use Rattle.switch_model.specs.Start.{SwitchStart}
use Rattle.tr_io.specs.declared.answers.DialAnswer.{DialAnswer}
use Rattle.tr_io.specs.declared.dials.DialOutcome.{DialOutcome}
use Rattle.tr_io.specs.declared.dials.DialStep.{DialStep}
use Rattle.tr_io.specs.declared.step.Step.{Step}
use Rattle.tr_io.specs.declared.step.Step.TheVariants.{DialDone}
use Rattle.switch_machine.proofs.DialDone.Kept.{dial_done_kept}
use Rattle.switch_machine.specs.Adds.{AddsTo}
use Rattle.switch_machine.specs.Calls.DialDone.{channels_with, dial_done_result, dial_done_state, dial_done_state_of, linked_over}
use Rattle.switch_machine.specs.State.{ChannelState, CircuitState, State, slot_at}

over-steps : (rules : Rules) (ev : List Event) (s : State) (c : ℕ) (x : CircuitState) (slots : List (Option ChannelState))
    (n : ℕ) (o : Option ChannelState) → (linked_over rules ev s c x slots n o).steps ≡ s.steps + 1
over-steps rules ev s c x slots n None = refl
over-steps rules ev s c x slots n (Some channel) = refl

steps-by : (rules : Rules) (ev : List Event) (s : State) (given_order : DialStep) (outcome : DialOutcome)
    (o : Option CircuitState)
    (a : DialAnswer) → (dial_done_state_of rules ev s given_order outcome o a).steps ≡ s.steps + 1
steps-by rules ev s given_order outcome None a = refl
steps-by rules ev s given_order outcome (Some x) (DialAnswer.Up n) =
    over-steps rules ev s given_order.circ.0 x (channels_with given_order.to outcome s.channels) n.0 (slot_at
    (channels_with given_order.to outcome s.channels) n.0)
steps-by rules ev s given_order outcome (Some x) (DialAnswer.Closed reason) = refl
steps-by rules ev s given_order outcome (Some x) (DialAnswer.Full limit) = refl
steps-by rules ev s given_order outcome (Some x) DialAnswer.Gone = refl
steps-by rules ev s given_order outcome (Some x) DialAnswer.Memory = refl

pub dial_done_adds : (start : SwitchStart) (h : List Step) (old new : State) (given_order : DialStep) (outcome : DialOutcome)
    (a : DialAnswer) → new ≡ dial_done_state start.rules (events start.rules h) old given_order outcome →
    a ≡ dial_done_result old given_order outcome → AddsTo start h old new (DialDone given_order outcome a)
unfolding AddsTo
dial_done_adds start h old new given_order outcome a e f = rw (e, f) (record {
  steps = steps-by start.rules (events start.rules h given_order.circ.0) old given_order outcome
      (slot_at old.circuits given_order.circ.0)
      (dial_done_result old given_order outcome);
  stands = λ st. dial_done_kept start old h given_order outcome st;
})
