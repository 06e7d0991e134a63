-- give_back of forward bodies that settle keeps what a state stands for.
use Rattle.std.proofs.Common.{◌≡◌, List, ◌∷◌, length, drop, Some, None, refl, ◌∙◌, arith}
use Rattle.std.proofs.lemmas.List.{length-append}
use Rattle.circuit_model.specs.Words.{log}
use Rattle.switch_machine.proofs.Dials.{dials-changed}
use Rattle.switch_machine.proofs.GiveBack.Returned.{batch-returned, claimed_forth, returning}
use Rattle.switch_machine.proofs.GiveBack.Settled.{circuit-settled}
use Rattle.switch_machine.proofs.OneCircuit.{circuit-changed, circuit-own}
use Rattle.switch_machine.proofs.OneStep.{step-added}
use Rattle.switch_machine.proofs.OtherEdges.{other_edges}
use Rattle.switch_machine.proofs.GrewLegs.{Grew, counts-grew, ids-grew, legs-grew, lies-grew}
use Rattle.switch_machine.proofs.Slots.{length-with, slot_at-inside, slot_at-with}
use Rattle.switch_machine.specs.Calls.GiveBack.{home_way, settle_all, settled_state}
use Rattle.switch_machine.specs.Machine.{dial_in, leg_in}
use Rattle.switch_machine.specs.Stands.{Stands}
use Rattle.switch_machine.specs.Stands.Circuits.{CircuitsStand}
use Rattle.switch_machine.specs.Stands.OneCircuit.{CircuitStands}
use Rattle.switch_machine.specs.State.{CircuitState, KeptClaim, State, slot_at}
use Rattle.switch_model.proofs.Common.{self_eq}
use Rattle.switch_model.proofs.Others.{other_pasts}
use Rattle.switch_model.specs.Answers.GiveBack.{give_back_answer}
use Rattle.switch_model.specs.History.Circuit.{events}
use Rattle.switch_model.specs.History.EdgePast.{edge_past}
use Rattle.switch_model.specs.History.Legs.{at, holds_id}
use Rattle.switch_model.specs.History.Past.{past}
use Rattle.switch_model.specs.History.Returns.{settling_reason}
use Rattle.switch_model.specs.Names.{Leg}
use Rattle.switch_model.specs.Start.{SwitchStart}
use Rattle.switch_model.specs.Waiting.Counts.{cell_count, tick}
use Rattle.switch_model.specs.Waiting.Dials.{asked, dials_made, numbered, was_handed_out}
use Rattle.switch_model.specs.Waiting.Lanes.{lane}
use Rattle.tr_io.specs.declared.answers.BackAnswer.TheVariants.{Settled}
use Rattle.tr_io.specs.declared.names.ClaimNote.{ClaimNote}
use Rattle.tr_io.specs.declared.names.Dir.TheVariants.{Forth}
use Rattle.tr_io.specs.declared.step.Step.{Step}

abbrev settling : ClaimNote → Step
settling n = returning n Settled

pub forth-kept : (start : SwitchStart) (s : State) (h : List Step) (n : ClaimNote) (x : CircuitState) (k : KeptClaim)
    → Stands start s h → slot_at s.circuits n.circ.0 ≡ Some x → n.dir ≡ Forth → x.forth.claim_out ≡ Some k → k.note ≡ n →
    settling_reason start.rules x.sent_count (events start.rules h n.circ.0) k.cells ≡ None
    → Settled ≡ give_back_answer start h n None →
    Stands start (settled_state start.rules (events start.rules h n.circ.0) s n.circ.0 x k.cells) (settling n ∷ h)
forth-kept start s h n x k st found forth out its none said =
    let rules = start.rules in
    let c = n.circ.0 in
    let step = settling n in
    let y = claimed_forth rules h s c x in
    let z = settle_all rules y k.cells in
    let new : CircuitState = record (z.circuit) { forth = home_way x.forth } in
    let t = settled_state rules (events rules h c) s c x k.cells in
    let own : CircuitStands rules s.last_closes x c (past rules h c) (λ j. holds_id h c j) (edge_past rules h c) =
    circuit-own rules s.last_closes s.circuits (λ d. past rules h d) (λ d j. holds_id h d j) (λ d. edge_past rules h d) c x found
    st.circuits in
    let behind_it =
    batch-returned rules s.last_closes h n Settled y k forth refl out its refl st.numbers.bodies st.numbers.dial_orders
    st.dials.never own in
    let circuits_now : CircuitsStand rules s.last_closes t.circuits (λ d. past rules (step ∷ h) d)
    (λ d j. holds_id (step ∷ h) d j) (λ d. edge_past rules (step ∷ h) d) =
    circuit-changed rules s.last_closes s.circuits (λ d. past rules h d) (λ d. past rules (step ∷ h) d) (λ d j. holds_id h d j)
    (λ d j. holds_id (step ∷ h) d j) (λ d. edge_past rules h d) (λ d. edge_past rules (step ∷ h) d) c x (Some new) found
    (λ d other at_d. rw (other_pasts rules h step d (rw other refl), other_edges rules h step d (rw other refl) refl) at_d)
    (λ d other fresh. rw (other_pasts rules h step d (rw other refl), other_edges rules h step d (rw other refl) refl) fresh)
    (circuit-settled rules s.last_closes h n y k forth out its refl st.numbers.bodies none own behind_it) st.circuits in
    let size : length t.circuits ≡ length s.circuits = length-with s.circuits c (Some new) in
    let grew : (leg : Leg) → Grew (leg_in s leg) (leg_in t leg) = legs-grew s c x new found behind_it.legs in
    record {
      steps = step-added start s.steps h step st.steps (tt, said);
      numbers = record {
        channels = st.numbers.channels;
        circuits = size ∙ st.numbers.circuits;
        claims = st.numbers.claims;
        bodies = behind_it.bodies;
        dial_orders = behind_it.dials;
        tick = st.numbers.tick;
      };
      channels = st.channels;
      circuits = circuits_now;
      ids = ids-grew (leg_in s) (leg_in t) (λ m. lane rules h m) (at h) grew st.ids;
      legs = lies-grew s.channels (leg_in s) (leg_in t) grew st.legs;
      dials = dials-changed s.again (dial_in s) (dial_in t) c (length (dials_made rules h)) (length (dials_made rules (step ∷ h)))
          (was_handed_out h) (was_handed_out (step ∷ h)) z.circuit.dial
          (rw (slot_at-with s.circuits c (Some new) c (slot_at-inside s.circuits c x found), self_eq c) refl)
          (λ d other. rw (slot_at-with s.circuits c (Some new) d (slot_at-inside s.circuits c x found), other) refl)
          (λ order beyond. st.dials.never order
          (omega (
            arith,
            beyond,
            length-append (dials_made rules h)
                (numbered (length (dials_made rules h)) c
                (drop (length (asked (log rules (events rules h c)))) (asked (log rules (events rules (step ∷ h) c))))),
          ))) st.dials;
      counts = counts-grew (leg_in s) (leg_in t) (cell_count rules h) (tick h) (length t.circuits) (length s.circuits) grew size
          st.counts;
      slots = st.slots;
      not_yet = st.not_yet;
    }
