-- tear_down is one step.
use Rattle.std.proofs.Common.{◌≡◌, ℕ, ◌+◌, List, Option, Some, None, refl}
use Rattle.circuit_model.specs.Events.{Event}
use Rattle.circuit_model.specs.Rules.{Rules}
use Rattle.switch_machine.proofs.TearDown.Kept.{tear_down_kept}
use Rattle.switch_machine.specs.Adds.{AddsTo}
use Rattle.switch_machine.specs.Calls.TearDown.{tear_down_result, tear_down_result_of, tear_down_state, tear_down_state_of}
use Rattle.switch_machine.specs.Stands.{Stands}
use Rattle.switch_machine.specs.Stands.OneCircuit.{CircuitAt}
use Rattle.switch_machine.specs.State.{CircuitState, State, slot_at}
use Rattle.switch_model.specs.Answers.TearDown.{tear_down_answer}
use Rattle.switch_model.specs.History.Circuit.{events}
use Rattle.switch_model.specs.History.EdgePast.{edge_past}
use Rattle.switch_model.specs.History.Legs.{holds_id}
use Rattle.switch_model.specs.History.Past.{past}
use Rattle.switch_model.specs.Start.{SwitchStart}
use Rattle.tr_io.specs.declared.answers.BackAnswer.{BackAnswer}
use Rattle.tr_io.specs.declared.names.CircNo.{CircNo}
use Rattle.tr_io.specs.declared.step.Step.{Step}
use Rattle.tr_io.specs.declared.step.Step.TheVariants.{TearDown}

steps-by : (rules : Rules) (ev : List Event) (s : State) (c reason : ℕ) (x : Option CircuitState)
    → (tear_down_state_of rules ev s c reason x).steps ≡ s.steps + 1
steps-by rules ev s c reason None = refl
steps-by rules ev s c reason (Some x) = refl

pub tear_down_adds : (start : SwitchStart) (h : List Step) (old new : State) (circ : CircNo) (reason : ℕ) (a : BackAnswer)
    → new ≡ tear_down_state start.rules (events start.rules h) old circ.0 reason → a ≡ tear_down_result old circ.0 reason →
    AddsTo start h old new (TearDown circ reason a)
unfolding AddsTo
tear_down_adds start h old new circ reason a e f = rw (e, f) (record {
  steps = steps-by start.rules (events start.rules h circ.0) old circ.0 reason (slot_at old.circuits circ.0);
  stands = λ st. tear_down_kept start old h circ.0 reason st;
})

said-by : (start : SwitchStart) (s : State) (h : List Step) (c reason : ℕ) (x : Option CircuitState)
    → CircuitAt start.rules s.last_closes x c (past start.rules h c) (λ k. holds_id h c k) (edge_past start.rules h c) →
    tear_down_result_of x reason ≡ tear_down_answer start.rules h c reason
said-by start s h c reason None gone = rw gone.live refl
said-by start s h c reason (Some x) own = rw own.live refl

pub tear_down_said : (start : SwitchStart) (s : State) (h : List Step) (c reason : ℕ) → Stands start s h
    → tear_down_result s c reason ≡ tear_down_answer start.rules h c reason
tear_down_said start s h c reason st = said-by start s h c reason (slot_at s.circuits c) (st.circuits.circuit c)
