-- give_back of sealed bodies keeps what a state stands for.
use Rattle.std.proofs.Common.{◌≡◌, ℕ, ◌≤◌, ◌<◌, true, List, [], ◌∷◌, length, Option, Some, None, option_map, refl, sym, ◌∙◌, ap, subst, arith, inl, inr}
use Rattle.std.proofs.Math.Seq.{drop-length}
use Rattle.std.proofs.lemmas.Bool.Decides.{eqb_tells}
use Rattle.std.proofs.lemmas.List.{append-nil}
use Rattle.circuit_model.specs.Events.{CircuitCell}
use Rattle.circuit_model.specs.Opened.{born_keys}
use Rattle.circuit_model.specs.Packaged.{back_bodies}
use Rattle.circuit_model.specs.Rules.{Rules}
use Rattle.circuit_model.specs.Words.{log}
use Rattle.switch_machine.proofs.Dials.{again-kept}
use Rattle.switch_machine.proofs.GiveBack.Returned.{back_of, returning}
use Rattle.switch_machine.proofs.NewBodies.{all-new, new-none}
use Rattle.switch_machine.proofs.GiveBack.Sealed.{circuit-sealed}
use Rattle.switch_machine.proofs.OneCircuit.{circuit-changed, circuit-own, dial_in-kept}
use Rattle.switch_machine.proofs.OneStep.{step-added}
use Rattle.switch_machine.proofs.OtherEdges.{other_edges}
use Rattle.switch_machine.proofs.Slots.{length-with, slot_at-inside, slot_at-with}
use Rattle.switch_machine.specs.Calls.GiveBack.{first_kept, sealed_cells, sealed_circuit, sealed_state}
use Rattle.switch_machine.specs.Calls.Settling.{more_queued, queued_on}
use Rattle.switch_machine.specs.Machine.{dial_in, has_port, kept_cells, leg_at, leg_in}
use Rattle.switch_machine.specs.Stands.{Stands}
use Rattle.switch_machine.specs.Stands.CircIds.{IsUsed}
use Rattle.switch_machine.specs.Stands.Circuits.{CircuitsStand}
use Rattle.switch_machine.specs.Stands.Counts.{CountAt}
use Rattle.switch_machine.specs.Stands.Legs.{LiesOn}
use Rattle.switch_machine.specs.Stands.OneCircuit.{CircuitStands}
use Rattle.switch_machine.specs.State.{ChannelState, CircuitState, KeptClaim, LegState, State, slot_at, with_slot}
use Rattle.switch_model.proofs.Common.{self_eq}
use Rattle.switch_model.proofs.Others.{other_pasts}
use Rattle.switch_model.specs.Answers.GiveBack.{give_back_answer}
use Rattle.switch_model.specs.Answers.Take.{queued}
use Rattle.switch_model.specs.History.Circuit.{events}
use Rattle.switch_model.specs.History.EdgePast.{edge_past}
use Rattle.switch_model.specs.History.Legs.{at, holds_id}
use Rattle.switch_model.specs.History.Past.{past}
use Rattle.switch_model.specs.Names.{Leg}
use Rattle.switch_model.specs.Start.{SwitchStart}
use Rattle.switch_model.specs.Waiting.Claims.{born_bodies}
use Rattle.switch_model.specs.Waiting.Counts.{cell_count, tick}
use Rattle.switch_model.specs.Waiting.Dials.{asked, dials_made}
use Rattle.switch_model.specs.Waiting.Lanes.{Destroy, lane}
use Rattle.tr_io.specs.declared.answers.BackAnswer.TheVariants.{Settled}
use Rattle.tr_io.specs.declared.names.ClaimNote.{ClaimNote}
use Rattle.tr_io.specs.declared.names.Dir.TheVariants.{Back, Forth}
use Rattle.tr_io.specs.declared.step.Step.{Step}

abbrev settling : ClaimNote → Step
settling n = returning n Settled

events-back : (rules : Rules) (h : List Step) (n : ClaimNote) → n.dir ≡ Back
    → events rules (settling n ∷ h) n.circ.0 ≡ events rules h n.circ.0
events-back rules h n back = rw (back, self_eq n.circ.0) refl

born-back : (rules : Rules) (h : List Step) (n : ClaimNote) → n.dir ≡ Back
    → born_bodies rules (settling n ∷ h) ≡ born_bodies rules h
born-back rules h n back =
    all-new _ _ (born_bodies rules h) []
    (new-none (back_of n.circ.0) _ _ (ap (λ e. length (back_bodies (log rules e))) (events-back rules h n back)))
    (new-none (record { circ = n.circ.0; dir = Forth }) _ _ refl)

dials-back : (rules : Rules) (h : List Step) (n : ClaimNote) → n.dir ≡ Back
    → dials_made rules (settling n ∷ h) ≡ dials_made rules h
dials-back rules h n back =
    rw (events-back rules h n back, drop-length (asked (log rules (events rules h n.circ.0)))) (append-nil (dials_made rules h))

edge-back : (rules : Rules) (h : List Step) (n : ClaimNote) → n.dir ≡ Back
    → edge_past rules (settling n ∷ h) n.circ.0 ≡ edge_past rules h n.circ.0
edge-back rules h n back = rw (born-back rules h n back, dials-back rules h n back, events-back rules h n back) refl

-- what holds of a leg whatever RELAY cells wait on it too
abbrev Stays : (Option LegState → Type 0) → List CircuitCell → Type 0
Stays P cells = (leg : Option LegState) → P leg → P (option_map (more_queued cells) leg)

leg-fact : (P : Option LegState → Type 0) (legs : List (Option LegState)) (cells : List CircuitCell) (k : ℕ) → 0 < length legs
    → (k ≡ 0 → P (slot_at legs k) → P (option_map (more_queued cells) (slot_at legs k))) →
    P (slot_at legs k) → P (slot_at (queued_on legs 0 cells) k)
leg-fact P legs cells k inside stays own = elim (eqb_tells k 0) [
  | inl (is, same) ↦ rw (slot_at-with legs 0 (option_map (more_queued cells) (slot_at legs 0)) k inside, is)
      (subst (λ i. P (option_map (more_queued cells) (slot_at legs i))) same (stays same own))
  | inr (is, other) ↦ rw (slot_at-with legs 0 (option_map (more_queued cells) (slot_at legs 0)) k inside, is) own
]

-- the same of the legs of the switch
legs-fact : (P : Option LegState → Type 0) (s : State) (c : ℕ) (x y : CircuitState) (cells : List CircuitCell) (leg : Leg)
    → slot_at s.circuits c ≡ Some x → y.legs ≡ queued_on x.legs 0 cells → 0 < length x.legs →
    (leg.number ≡ 0 → Stays P cells) → P (leg_in s leg)
    → P (leg_at (slot_at (with_slot s.circuits c (Some y)) leg.circ) leg.number)
legs-fact P s c x y cells leg found queued some stays own = elim (eqb_tells leg.circ c) [
  | inl (is, here) ↦
      let old : leg_in s leg ≡ slot_at x.legs leg.number = rw (here, found) refl in
      rw (slot_at-with s.circuits c (Some y) leg.circ (slot_at-inside s.circuits c x found), is, queued)
      (leg-fact P x.legs cells leg.number some (λ first. stays first (slot_at x.legs leg.number)) (subst P old own))
  | inr (is, other) ↦ rw (slot_at-with s.circuits c (Some y) leg.circ (slot_at-inside s.circuits c x found), is) own
]

port-stays : (chan id : ℕ) (cells : List CircuitCell) → Stays (λ leg. has_port chan id leg ≡ true) cells
port-stays chan id cells None own = own
port-stays chan id cells (Some leg) own = own

count-stays : (n now : ℕ) (cells : List CircuitCell) → Stays (λ leg. CountAt leg n now) cells
count-stays n now cells None own = own
count-stays n now cells (Some leg) own = record { since = own.since; count = own.count }

lies-stay : (slots : List (Option ChannelState)) (cells : List CircuitCell) → Stays (LiesOn slots) cells
lies-stay slots cells None own = own
lies-stay slots cells (Some leg) own = own

used-alike : (legs more : Leg → Option LegState) (waits : List Destroy) (chan id : ℕ) (x : Option Leg)
    → ((leg : Leg) → has_port chan id (legs leg) ≡ true → has_port chan id (more leg) ≡ true) → IsUsed legs waits chan id x
    → IsUsed more waits chan id x
used-alike legs more waits chan id None same used = tt
used-alike legs more waits chan id (Some leg) same (inl has) = inl (same leg has)
used-alike legs more waits chan id (Some leg) same (inr some) = inr some

pub back-kept : (start : SwitchStart) (s : State) (h : List Step) (n : ClaimNote) (x : CircuitState) (k : KeptClaim)
    → Stands start s h → slot_at s.circuits n.circ.0 ≡ Some x → n.dir ≡ Back → x.back.claim_out ≡ Some k → k.note ≡ n →
    Settled ≡ give_back_answer start h n None →
    Stands start (sealed_state start.rules (events start.rules h n.circ.0) s n.circ.0 x) (settling n ∷ h)
back-kept start s h n x k st found back out its said =
    let rules = start.rules in
    let c = n.circ.0 in
    let step = settling n in
    let new = sealed_circuit rules (events rules h c) x in
    let t = sealed_state rules (events rules h c) s c x in
    let key = (born_keys (log rules (events rules h c))).kb in
    let cells = sealed_cells key (first_kept x.back.claim_out) (kept_cells x.back.claim_out) in
    let own : CircuitStands rules s.last_closes x c (past rules h c) (λ j. holds_id h c j) (edge_past rules h c) =
    circuit-own rules s.last_closes s.circuits (λ d. past rules h d) (λ d j. holds_id h d j) (λ d. edge_past rules h d) c x found
    st.circuits in
    let some_legs : 0 < length x.legs = omega (arith, own.hops) in
    let circuits_now : CircuitsStand rules s.last_closes t.circuits (λ d. past rules (step ∷ h) d)
    (λ d j. holds_id (step ∷ h) d j) (λ d. edge_past rules (step ∷ h) d) =
    circuit-changed rules s.last_closes s.circuits (λ d. past rules h d) (λ d. past rules (step ∷ h) d) (λ d j. holds_id h d j)
    (λ d j. holds_id (step ∷ h) d j) (λ d. edge_past rules h d) (λ d. edge_past rules (step ∷ h) d) c x (Some new) found
    (λ d other at_d. rw (other_pasts rules h step d (rw other refl), other_edges rules h step d (rw other refl) refl) at_d)
    (λ d other fresh. rw (other_pasts rules h step d (rw other refl), other_edges rules h step d (rw other refl) refl) fresh)
    (circuit-sealed rules s.last_closes h n x k back out its own (edge-back rules h n back) (events-back rules h n back))
    st.circuits in
    let size : length t.circuits ≡ length s.circuits = length-with s.circuits c (Some new) in
    record {
      steps = step-added start s.steps h step st.steps (tt, said);
      numbers = record {
        channels = st.numbers.channels;
        circuits = size ∙ st.numbers.circuits;
        claims = st.numbers.claims;
        bodies = st.numbers.bodies ∙ ap length (sym (born-back rules h n back));
        dial_orders = st.numbers.dial_orders ∙ ap length (sym (dials-back rules h n back));
        tick = st.numbers.tick;
      };
      channels = st.channels;
      circuits = circuits_now;
      ids = record {
        used = λ chan id. used-alike (leg_in s) (leg_in t) (lane rules h chan) chan id (at h chan id)
            (λ leg. legs-fact (λ y. has_port chan id y ≡ true) s c x new cells leg found refl some_legs
            (λ first. port-stays chan id cells)) (st.ids.used chan id);
      };
      legs = record {
        lie = λ leg. legs-fact (LiesOn s.channels) s c x new cells leg found refl some_legs (λ first. lies-stay s.channels cells)
            (st.legs.lie leg);
      };
      dials = record {
        are_out = again-kept (dial_in s) (dial_in t) s.again (λ d handed_out. rw (dial_in-kept s c x new found refl d) handed_out)
            st.dials.are_out;
        once = st.dials.once;
        never = λ order beyond. st.dials.never order (subst (λ m. length m ≤ order) (dials-back rules h n back) beyond);
      };
      counts = record {
        counts = λ leg. legs-fact (λ y. CountAt y (cell_count rules h leg.circ leg.number) (tick h)) s c x new cells leg found
            refl some_legs (λ first. count-stays (cell_count rules h leg.circ leg.number) (tick h) cells) (st.counts.counts leg);
        no_count = λ d j beyond. st.counts.no_count d j (omega (arith, beyond, size));
      };
      slots = st.slots;
      not_yet = st.not_yet;
    }
