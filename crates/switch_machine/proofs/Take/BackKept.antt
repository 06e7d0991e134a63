-- A cell from the next hop that is queued: all circuits together.
use Rattle.std.proofs.Common.{List, Some, false, length, not, refl, suc, true, ℕ, ◌==◌, ◌∙◌, ◌∷◌, ◌≡◌}
use Rattle.std.specs.List.{filter}
use Rattle.cell_codec.specs.declared.cell.Cell.{Cell}
use Rattle.circuit_model.specs.NextHop.{has_leg, leg_count, next_hop}
use Rattle.circuit_model.specs.Sent.{given_forth}
use Rattle.circuit_model.specs.Words.{entry_after, log}
use Rattle.switch_model.proofs.Common.{self_eq}
use Rattle.switch_model.proofs.Others.{other_pasts}
use Rattle.switch_model.specs.History.Circuit.{events}
use Rattle.switch_model.specs.History.EdgePast.{edge_past}
use Rattle.switch_model.specs.History.Legs.{at, holds_id}
use Rattle.switch_model.specs.History.Past.{past}
use Rattle.switch_model.specs.Legal.{IsRightStep}
use Rattle.switch_model.specs.Names.{Leg, chan_no, circuit_cell}
use Rattle.switch_model.specs.Start.{SwitchStart}
use Rattle.switch_model.specs.Waiting.Counts.{cell_count, tick}
use Rattle.switch_model.specs.Waiting.Dials.{dials_made, was_handed_out}
use Rattle.switch_model.specs.Waiting.Lanes.{lane}
use Rattle.tr_io.specs.declared.answers.TakeAnswer.TheVariants.{Queued}
use Rattle.tr_io.specs.declared.step.Step.{Step}
use Rattle.tr_io.specs.declared.step.Step.TheVariants.{Take}
use Rattle.switch_machine.proofs.Dials.{dials-changed}
use Rattle.switch_machine.proofs.GrewLegs.{Grew, counts-grew, hop-grew, legs-grew, lies-grew, port-grew}
use Rattle.switch_machine.proofs.OneCircuit.{circuit-changed, circuit-own}
use Rattle.switch_machine.proofs.OneStep.{step-added}
use Rattle.switch_machine.proofs.OtherEdges.{other_edges}
use Rattle.switch_machine.proofs.Slots.{length-with, slot_at-inside, slot_at-with}
use Rattle.switch_machine.proofs.Take.Frees.{circuit-taken, frees, frees-none, ids-freed, lane-stays}
use Rattle.switch_machine.proofs.Take.QueuedBack.{bodies-queued, circuit-queued, dial-queued}
use Rattle.switch_machine.specs.Calls.Settling.{settle_event, unsettled}
use Rattle.switch_machine.specs.Calls.Take.{hop_event, queued_back_state}
use Rattle.switch_machine.specs.Machine.{dial_in, leg_in}
use Rattle.switch_machine.specs.Stands.{Stands}
use Rattle.switch_machine.specs.State.{CircuitState, State, slot_at}

abbrev queueing : ℕ → Cell → Step
queueing chan cell = Take (chan_no chan) cell Queued

pub queued-back : (start : SwitchStart) (s : State) (h : List Step) (chan c k : ℕ) (cell : Cell) (x : CircuitState) →
    Stands start s h → slot_at s.circuits c ≡ Some x → at h chan cell.circ ≡ Some (record { circ = c; number = suc k }) →
    (cell.command == 4) ≡ false → has_leg (next_hop (log start.rules (events start.rules h c))) ≡ true →
    IsRightStep start h (queueing chan cell) →
    Stands start (queued_back_state start.rules (events start.rules h c) s c (circuit_cell cell) x) (queueing chan cell ∷ h)
queued-back start s h chan c k cell x st found here other has right =
    let rules = start.rules in
    let step = queueing chan cell in
    let l = log rules (events rules h c) in
    let e = hop_event (circuit_cell cell) in
    let z = settle_event rules e (unsettled (events rules h c) s x) in
    let t = queued_back_state rules (events rules h c) s c (circuit_cell cell) x in
    let own = circuit-own rules s.last_closes s.circuits (λ d. past rules h d) (λ d j. holds_id h d j) (λ d.
    edge_past rules h d) c x found st.circuits in
    let inside = slot_at-inside s.circuits c x found in
    let size : length t.circuits ≡ length s.circuits = length-with s.circuits c (Some z.circuit) in
    let grew : (leg : Leg) → Grew (leg_in s leg) (leg_in t leg) = legs-grew s c x z.circuit found (hop-grew x.legs (leg_count l)
    (given_forth l (entry_after rules l e))) in
    let past_same : (d : ℕ) → (c == d) ≡ false →
    past rules (step ∷ h) d ≡ past rules h d = λ d unlike. other_pasts rules h step d (rw (here, unlike) refl) in
    let edge_same : (d : ℕ) → (c == d) ≡ false → edge_past rules (step ∷ h) d ≡ edge_past rules h d = λ d unlike.
    other_edges rules h step d (rw (here, unlike) refl) refl in
    let none : (m : ℕ) → filter (λ d. not (frees chan cell m d.id)) (lane rules h m) ≡ lane rules h m = λ m. lane-stays
    (frees chan cell m) (lane rules h m) (λ d. frees-none chan cell other m d.id) in
    record {
      steps = step-added start s.steps h step st.steps right;
      numbers = record {
        channels = st.numbers.channels;
        circuits = size ∙ st.numbers.circuits;
        claims = st.numbers.claims;
        bodies = bodies-queued rules s h chan c k cell x here st.numbers.bodies;
        dial_orders = dial-queued rules h s c cell x ∙ st.numbers.dial_orders;
        tick = st.numbers.tick;
      };
      channels = record { channel = λ m. rw (none m) (st.channels.channel m); no_channel = st.channels.no_channel };
      circuits = circuit-changed rules s.last_closes s.circuits (λ d. past rules h d) (λ d. past rules (step ∷ h) d) (λ d j.
          holds_id h d j) (λ d j. holds_id (step ∷ h) d j)
          (λ d. edge_past rules h d) (λ d. edge_past rules (step ∷ h) d) c x (Some z.circuit) found
          (λ d unlike old. circuit-taken rules s.last_closes h chan cell Queued d (slot_at s.circuits d) (λ j m is.
          frees-none chan cell other m.chan m.id) (past_same d unlike) (edge_same d unlike) old)
          (λ d unlike fresh. rw (past_same d unlike, edge_same d unlike) fresh)
          (circuit-queued rules s h chan c k cell x here other has st.numbers.bodies own) st.circuits;
      ids = ids-freed (leg_in s) (leg_in t) (λ m. lane rules h m) (at h) (frees chan cell) (λ leg m i free is. port-grew m i
          (leg_in s leg) (leg_in t leg) (grew leg) is) st.ids;
      legs = lies-grew s.channels (leg_in s) (leg_in t) grew st.legs;
      dials = dials-changed s.again (dial_in s) (dial_in t) c (length (dials_made rules h)) (length (dials_made rules h))
          (was_handed_out h) (was_handed_out h) z.circuit.dial
          (rw (slot_at-with s.circuits c (Some z.circuit) c inside, self_eq c) refl)
          (λ d unlike. rw (slot_at-with s.circuits c (Some z.circuit) d inside, unlike) refl) st.dials.never st.dials;
      counts = counts-grew (leg_in s) (leg_in t) (cell_count rules h) (tick h) (length t.circuits)
          (length s.circuits) grew size st.counts;
      slots = st.slots;
      not_yet = st.not_yet;
    }
