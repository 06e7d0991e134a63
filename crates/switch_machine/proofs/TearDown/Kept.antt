-- tear_down keeps what a state stands for.
use Rattle.std.proofs.Common.{◌≡◌, ℕ, true, List, ◌∷◌, Option, Some, None, refl, ◌∙◌, subst, arith}
use Rattle.switch_machine.proofs.OneCircuit.{circuit-own}
use Rattle.switch_machine.proofs.OtherEdges.{other_edges}
use Rattle.switch_machine.proofs.Slots.{slot_at-inside}
use Rattle.switch_machine.proofs.StepAlone.{step-alone}
use Rattle.switch_machine.proofs.TearDown.By.{torn-by}
use Rattle.switch_machine.specs.Calls.TearDown.{tear_down_result, tear_down_result_of, tear_down_state, tear_down_state_of, torn_state}
use Rattle.switch_machine.specs.Machine.{counted}
use Rattle.switch_machine.specs.Stands.{Stands}
use Rattle.switch_machine.specs.Stands.OneCircuit.{CircuitAt, CircuitStands}
use Rattle.switch_machine.specs.State.{CircuitState, State, slot_at}
use Rattle.switch_model.proofs.Common.{not_equal, self_eq}
use Rattle.switch_model.proofs.Others.{other_pasts}
use Rattle.switch_model.specs.History.Circuit.{events, is_live_circuit}
use Rattle.switch_model.specs.History.EdgePast.{edge_past}
use Rattle.switch_model.specs.History.Legs.{holds_id}
use Rattle.switch_model.specs.History.Past.{past}
use Rattle.switch_model.specs.Names.{circ_no}
use Rattle.switch_model.specs.Start.{SwitchStart}
use Rattle.switch_model.specs.Waiting.Lanes.{lane}
use Rattle.tr_io.specs.declared.answers.BackAnswer.{BackAnswer}
use Rattle.tr_io.specs.declared.step.Step.{Step}
use Rattle.tr_io.specs.declared.step.Step.TheVariants.{TearDown}

abbrev tearing : ℕ → ℕ → Step
tearing c reason = TearDown (circ_no c) reason (BackAnswer.Down reason)

pub torn-kept : (start : SwitchStart) (s : State) (h : List Step) (c reason : ℕ) (x : CircuitState) → Stands start s h
    → slot_at s.circuits c ≡ Some x →
    Stands start (torn_state start.rules (events start.rules h c) (counted s) c reason x) (tearing c reason ∷ h)
torn-kept start s h c reason x st found =
    let rules = start.rules in
    let step = tearing c reason in
    let own : CircuitStands rules s.last_closes x c (past rules h c) (λ j. holds_id h c j) (edge_past rules h c) =
    circuit-own rules s.last_closes s.circuits (λ d. past rules h d) (λ d j. holds_id h d j) (λ d. edge_past rules h d) c x found
    st.circuits in
    let alive : is_live_circuit rules h c ≡ true = own.live in
    let inside = slot_at-inside s.circuits c x found in
    torn-by start s (counted s) h step c reason x (λ m. lane rules h m) st (record {
      said = (tt, rw alive refl);
      steps = omega (arith, st.steps.count_is);
      numbers = st.numbers;
      channels = st.channels;
      others = λ d other. rw (other_pasts rules h step d (rw other refl), other_edges rules h step d (rw other refl) refl)
          (st.circuits.circuit d);
      fresh = λ d beyond.
          let other = not_equal c d (λ same. absurd (omega (arith, beyond, inside, same))) in
          rw (other_pasts rules h step d (rw other refl), other_edges rules h step d (rw other refl) refl)
          (st.circuits.fresh d beyond);
      ids = st.ids;
      legs_stand = st.legs;
      dials = st.dials;
      counts = st.counts;
      slots = st.slots;
      not_yet = st.not_yet;
      found = found;
      legs = own.legs;
      left = λ serial. own.no_left serial ∙ rw (st.not_yet.unreached c serial) refl;
      lane = λ m. rw (alive, own.hops) refl;
      dead = rw (self_eq c) refl;
    })

gone-kept : (start : SwitchStart) (s : State) (h : List Step) (c reason : ℕ) → Stands start s h → slot_at s.circuits c ≡ None
    → Stands start (counted s) (TearDown (circ_no c) reason BackAnswer.Gone ∷ h)
gone-kept start s h c reason st none =
    let gone = subst
    (λ x. CircuitAt start.rules s.last_closes x c (past start.rules h c) (λ k. holds_id h c k) (edge_past start.rules h c))
    none (st.circuits.circuit c) in
    step-alone start s h (TearDown (circ_no c) reason BackAnswer.Gone) refl (tt, rw gone.live refl) st

by-circuit : (start : SwitchStart) (s : State) (h : List Step) (c reason : ℕ) (x : Option CircuitState) → Stands start s h
    → slot_at s.circuits c ≡ x →
    Stands start (tear_down_state_of start.rules (events start.rules h c) s c reason x)
    (TearDown (circ_no c) reason (tear_down_result_of x reason) ∷ h)
by-circuit start s h c reason None st found = gone-kept start s h c reason st found
by-circuit start s h c reason (Some x) st found = torn-kept start s h c reason x st found

pub tear_down_kept : (start : SwitchStart) (s : State) (h : List Step) (c reason : ℕ) → Stands start s h →
    Stands start (tear_down_state start.rules (events start.rules h) s c reason)
    (TearDown (circ_no c) reason (tear_down_result s c reason) ∷ h)
tear_down_kept start s h c reason st = by-circuit start s h c reason (slot_at s.circuits c) st refl
