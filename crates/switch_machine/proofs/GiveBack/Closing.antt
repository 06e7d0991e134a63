-- give_back of forward bodies one of which closes: the circuit is torn down behind them.
use Rattle.std.proofs.Common.{◌≡◌, ℕ, ◌==◌, true, false, List, ◌∷◌, length, drop, Some, None, refl, sym, ◌∙◌, subst, arith}
use Rattle.std.proofs.lemmas.List.{length-append}
use Rattle.circuit_model.specs.Words.{log}
use Rattle.switch_machine.proofs.Dials.{dials-changed}
use Rattle.switch_machine.proofs.GiveBack.Batch.{batch-events}
use Rattle.switch_machine.proofs.GiveBack.Returned.{batch-returned, claimed_forth, returning}
use Rattle.switch_machine.proofs.OneCircuit.{circuit-own}
use Rattle.switch_machine.proofs.OtherEdges.{other_edges}
use Rattle.switch_machine.proofs.GrewLegs.{Grew, counts-grew, ids-grew, legs-grew, lies-grew}
use Rattle.switch_machine.proofs.Slots.{length-with, slot_at-inside, slot_at-with}
use Rattle.switch_machine.proofs.TearDown.By.{torn-by}
use Rattle.switch_machine.specs.Calls.GiveBack.{closed_state, home_way, settle_all, settled_state}
use Rattle.switch_machine.specs.Calls.TearDown.{torn_state}
use Rattle.switch_machine.specs.Machine.{dial_in, leg_in}
use Rattle.switch_machine.specs.Stands.{Stands}
use Rattle.switch_machine.specs.Stands.OneCircuit.{CircuitAt, CircuitStands}
use Rattle.switch_machine.specs.State.{CircuitState, KeptClaim, State, slot_at}
use Rattle.switch_model.proofs.Common.{not_equal, self_eq}
use Rattle.switch_model.proofs.Others.{other_pasts}
use Rattle.switch_model.specs.Answers.GiveBack.{give_back_answer}
use Rattle.switch_model.specs.History.Circuit.{events, is_live_circuit}
use Rattle.switch_model.specs.History.EdgePast.{edge_past}
use Rattle.switch_model.specs.History.Legs.{at, holds_id}
use Rattle.switch_model.specs.History.Past.{past}
use Rattle.switch_model.specs.History.Returns.{settled}
use Rattle.switch_model.specs.Names.{Leg}
use Rattle.switch_model.specs.Start.{SwitchStart}
use Rattle.switch_model.specs.Waiting.Counts.{cell_count, tick}
use Rattle.switch_model.specs.Waiting.Dials.{asked, dials_made, numbered, was_handed_out}
use Rattle.switch_model.specs.Waiting.Lanes.{lane}
use Rattle.tr_io.specs.declared.answers.BackAnswer.{BackAnswer}
use Rattle.tr_io.specs.declared.names.ClaimNote.{ClaimNote}
use Rattle.tr_io.specs.declared.names.Dir.TheVariants.{Forth}
use Rattle.tr_io.specs.declared.step.Step.{Step}

abbrev closing : ClaimNote → ℕ → Step
closing n reason = returning n (BackAnswer.Down reason)

differs : (c d : ℕ) → (c == d) ≡ false → c ≡ d → ⊥
differs c d other e = let same : (c == d) ≡ true = rw e (self_eq d) in cc

pub closing-kept : (start : SwitchStart) (s : State) (h : List Step) (n : ClaimNote) (reason : ℕ) (x : CircuitState)
    (k : KeptClaim) → Stands start s h → slot_at s.circuits n.circ.0 ≡ Some x → n.dir ≡ Forth → x.forth.claim_out ≡ Some k
    → k.note ≡ n →
    BackAnswer.Down reason ≡ give_back_answer start h n None →
    Stands start (closed_state start.rules (events start.rules h n.circ.0) s n.circ.0 x k.cells reason) (closing n reason ∷ h)
closing-kept start s h n reason x k st found forth out its said =
    let rules = start.rules in
    let c = n.circ.0 in
    let step = closing n reason in
    let y = claimed_forth rules h s c x in
    let z = settle_all rules y k.cells in
    let new : CircuitState = record (z.circuit) { forth = home_way x.forth } in
    let t = settled_state rules (events rules h c) s c x k.cells in
    let own : CircuitStands rules s.last_closes x c (past rules h c) (λ j. holds_id h c j) (edge_past rules h c) =
    circuit-own rules s.last_closes s.circuits (λ d. past rules h d) (λ d j. holds_id h d j) (λ d. edge_past rules h d) c x found
    st.circuits in
    let alive : is_live_circuit rules h c ≡ true = own.live in
    let behind_it =
    batch-returned rules s.last_closes h n (BackAnswer.Down reason) y k forth refl out its refl st.numbers.bodies
    st.numbers.dial_orders st.dials.never own in
    let told : settled rules x.sent_count (events rules h c) k.cells ≡ events rules (step ∷ h) c =
    sym (batch-events rules k.cells y) ∙ behind_it.events_are in
    let inside = slot_at-inside s.circuits c x found in
    let size : length t.circuits ≡ length s.circuits = length-with s.circuits c (Some new) in
    let others : (d : ℕ) → (c == d) ≡ false
    → CircuitAt rules s.last_closes (slot_at t.circuits d) d (past rules (step ∷ h) d) (λ i. holds_id (step ∷ h) d i)
    (edge_past rules (step ∷ h) d) =
    λ d other. rw (
      slot_at-with s.circuits c (Some new) d inside,
      not_equal d c (λ e. differs c d other e),
      other_pasts rules h step d (rw other refl),
      other_edges rules h step d (rw other refl) refl,
    ) (st.circuits.circuit d) in
    let grew : (leg : Leg) → Grew (leg_in s leg) (leg_in t leg) = legs-grew s c x new found behind_it.legs in
    subst (λ ev. Stands start (torn_state rules ev t c reason new) (step ∷ h)) (sym told)
    (torn-by start s t h step c reason new (λ m. lane rules h m) st (record {
      said = (tt, said);
      steps = omega (arith, st.steps.count_is);
      numbers = record {
        channels = st.numbers.channels;
        circuits = size ∙ st.numbers.circuits;
        claims = st.numbers.claims;
        bodies = behind_it.bodies;
        dial_orders = behind_it.dials;
        tick = st.numbers.tick;
      };
      channels = st.channels;
      others = others;
      fresh = λ d beyond.
          let other = not_equal c d (λ same. absurd (omega (arith, beyond, size, inside, same))) in
          rw (other_pasts rules h step d (rw other refl), other_edges rules h step d (rw other refl) refl)
          (st.circuits.fresh d (omega (arith, beyond, size)));
      ids = ids-grew (leg_in s) (leg_in t) (λ m. lane rules h m) (at h) grew st.ids;
      legs_stand = lies-grew s.channels (leg_in s) (leg_in t) grew st.legs;
      dials = dials-changed s.again (dial_in s) (dial_in t) c (length (dials_made rules h)) (length (dials_made rules (step ∷ h)))
          (was_handed_out h) (was_handed_out (step ∷ h)) z.circuit.dial
          (rw (slot_at-with s.circuits c (Some new) c inside, self_eq c) refl)
          (λ d other. rw (slot_at-with s.circuits c (Some new) d inside, other) refl)
          (λ order beyond. st.dials.never order
          (omega (
            arith,
            beyond,
            length-append (dials_made rules h)
                (numbered (length (dials_made rules h)) c
                (drop (length (asked (log rules (events rules h c)))) (asked (log rules (events rules (step ∷ h) c))))),
          ))) st.dials;
      counts = counts-grew (leg_in s) (leg_in t) (cell_count rules h) (tick h) (length t.circuits) (length s.circuits) grew size
          st.counts;
      slots = st.slots;
      not_yet = st.not_yet;
      found = rw (slot_at-with s.circuits c (Some new) c inside, self_eq c) refl;
      legs = behind_it.core.legs;
      left = λ serial. own.no_left serial ∙ rw (st.not_yet.unreached c serial) refl;
      lane = λ m. rw (alive, behind_it.core.hops) refl;
      dead = rw (self_eq c) refl;
    }))
