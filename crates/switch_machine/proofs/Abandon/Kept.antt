-- abandon keeps what a state stands for.
use Rattle.std.proofs.Common.{◌≡◌, ℕ, true, false, List, ◌∷◌, Option, Some, None, refl, ◌∙◌, arith}
use Rattle.circuit_model.specs.Events.{Event}
use Rattle.circuit_model.specs.Rules.{Rules}
use Rattle.switch_machine.proofs.Abandon.Said.{abandon_said}
use Rattle.switch_machine.proofs.GiveBack.Accepts.{accepts}
use Rattle.switch_machine.proofs.OneCircuit.{circuit-own}
use Rattle.switch_machine.proofs.OtherEdges.{other_edges}
use Rattle.switch_machine.proofs.Slots.{slot_at-inside}
use Rattle.switch_machine.proofs.StepAlone.{step-alone}
use Rattle.switch_machine.proofs.TearDown.By.{torn-by}
use Rattle.switch_machine.specs.Calls.Abandon.{abandon_result, abandon_state, abandon_state_of}
use Rattle.switch_machine.specs.Calls.TearDown.{torn_state}
use Rattle.switch_machine.specs.Machine.{counted}
use Rattle.switch_machine.specs.Stands.{Stands}
use Rattle.switch_machine.specs.Stands.OneCircuit.{CircuitStands}
use Rattle.switch_machine.specs.State.{CircuitState, State, slot_at}
use Rattle.switch_model.proofs.Common.{not_equal, self_eq}
use Rattle.switch_model.proofs.Others.{other_pasts}
use Rattle.switch_model.specs.Answers.Abandon.{abandon_answer}
use Rattle.switch_model.specs.History.Circuit.{events, is_accepted_return, is_live_circuit}
use Rattle.switch_model.specs.History.EdgePast.{edge_past}
use Rattle.switch_model.specs.History.Legs.{holds_id}
use Rattle.switch_model.specs.History.Past.{past}
use Rattle.switch_model.specs.Start.{SwitchStart}
use Rattle.switch_model.specs.Waiting.Lanes.{lane}
use Rattle.tor_spec.specs.Reasons.{destroy_internal}
use Rattle.tr_io.specs.declared.answers.BackAnswer.{BackAnswer}
use Rattle.tr_io.specs.declared.names.ClaimNote.{ClaimNote}
use Rattle.tr_io.specs.declared.step.Step.{Step}
use Rattle.tr_io.specs.declared.step.Step.TheVariants.{Abandon}

abbrev giving_up : ClaimNote → Option ℕ → ℕ → Step
giving_up n place reason = Abandon n place (BackAnswer.Down reason)

torn-kept : (start : SwitchStart) (s : State) (h : List Step) (n : ClaimNote) (place : Option ℕ) (reason : ℕ) (x : CircuitState)
    → Stands start s h → slot_at s.circuits n.circ.0 ≡ Some x → BackAnswer.Down reason ≡ abandon_answer start h n place →
    Stands start (torn_state start.rules (events start.rules h n.circ.0) (counted s) n.circ.0 reason x)
    (giving_up n place reason ∷ h)
torn-kept start s h n place reason x st found said =
    let rules = start.rules in
    let c = n.circ.0 in
    let step = giving_up n place reason in
    let own : CircuitStands rules s.last_closes x c (past rules h c) (λ j. holds_id h c j) (edge_past rules h c) =
    circuit-own rules s.last_closes s.circuits (λ d. past rules h d) (λ d j. holds_id h d j) (λ d. edge_past rules h d) c x found
    st.circuits in
    let alive : is_live_circuit rules h c ≡ true = own.live in
    let inside = slot_at-inside s.circuits c x found in
    torn-by start s (counted s) h step c reason x (λ m. lane rules h m) st (record {
      said = (tt, said);
      steps = omega (arith, st.steps.count_is);
      numbers = st.numbers;
      channels = st.channels;
      others = λ d other. rw (other_pasts rules h step d (rw other refl), other_edges rules h step d (rw other refl) refl)
          (st.circuits.circuit d);
      fresh = λ d beyond.
          let other = not_equal c d (λ same. absurd (omega (arith, beyond, inside, same))) in
          rw (other_pasts rules h step d (rw other refl), other_edges rules h step d (rw other refl) refl)
          (st.circuits.fresh d beyond);
      ids = st.ids;
      legs_stand = st.legs;
      dials = st.dials;
      counts = st.counts;
      slots = st.slots;
      not_yet = st.not_yet;
      found = found;
      legs = own.legs;
      left = λ serial. own.no_left serial ∙ rw (st.not_yet.unreached c serial) refl;
      lane = λ m. rw (alive, own.hops) refl;
      dead = rw (self_eq c) refl;
    })

-- a refusal changes nothing
refused-kept : (start : SwitchStart) (s : State) (h : List Step) (n : ClaimNote) (place : Option ℕ) (a : BackAnswer)
    → is_accepted_return a ≡ false → Stands start s h → a ≡ abandon_answer start h n place
    → Stands start (counted s) (Abandon n place a ∷ h)
refused-kept start s h n place BackAnswer.Settled refused st said = absurd cc
refused-kept start s h n place (BackAnswer.Down reason) refused st said = absurd cc
refused-kept start s h n place BackAnswer.Gone refused st said =
    step-alone start s h (Abandon n place BackAnswer.Gone) refl (tt, said) st
refused-kept start s h n place (BackAnswer.Stranger why) refused st said =
    step-alone start s h (Abandon n place (BackAnswer.Stranger why)) refl (tt, said) st

refused-state : (rules : Rules) (ev : List Event) (s : State) (n : ClaimNote) (x : Option CircuitState) (a : BackAnswer)
    → is_accepted_return a ≡ false → abandon_state_of rules ev s n x a ≡ counted s
refused-state rules ev s n None a refused = refl
refused-state rules ev s n (Some x) BackAnswer.Settled refused = refl
refused-state rules ev s n (Some x) (BackAnswer.Down reason) refused = absurd cc
refused-state rules ev s n (Some x) BackAnswer.Gone refused = refl
refused-state rules ev s n (Some x) (BackAnswer.Stranger why) refused = refl

by-answer : (start : SwitchStart) (s : State) (h : List Step) (n : ClaimNote) (place : Option ℕ) (a : BackAnswer)
    → Stands start s h → abandon_result start.name s n place ≡ a → a ≡ abandon_answer start h n place →
    Stands start (abandon_state_of start.rules (events start.rules h n.circ.0) s n (slot_at s.circuits n.circ.0) a)
    (Abandon n place a ∷ h)
by-answer start s h n place BackAnswer.Settled st same said =
    let accepted = accepts start.name s n place (λ x. BackAnswer.Down destroy_internal) BackAnswer.Settled refl same in
    absurd (let no = accepted.says in cc)
by-answer start s h n place (BackAnswer.Down reason) st same said =
    let accepted = accepts start.name s n place (λ x. BackAnswer.Down destroy_internal) (BackAnswer.Down reason) refl same in
    rw accepted.found (torn-kept start s h n place reason accepted.circuit st accepted.found said)
by-answer start s h n place BackAnswer.Gone st same said =
    rw (refused-state start.rules (events start.rules h n.circ.0) s n (slot_at s.circuits n.circ.0) BackAnswer.Gone refl)
    (refused-kept start s h n place BackAnswer.Gone refl st said)
by-answer start s h n place (BackAnswer.Stranger why) st same said =
    rw (refused-state start.rules (events start.rules h n.circ.0) s n (slot_at s.circuits n.circ.0) (BackAnswer.Stranger why)
    refl) (refused-kept start s h n place (BackAnswer.Stranger why) refl st said)

pub abandon_kept : (start : SwitchStart) (s : State) (h : List Step) (n : ClaimNote) (place : Option ℕ) → Stands start s h →
    Stands start (abandon_state start.name start.rules (events start.rules h) s n place)
    (Abandon n place (abandon_result start.name s n place) ∷ h)
abandon_kept start s h n place st =
    by-answer start s h n place (abandon_result start.name s n place) st refl (abandon_said start s h n place st)
