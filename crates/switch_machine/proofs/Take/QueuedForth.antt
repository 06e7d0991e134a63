-- A cell from the client's side that is queued keeps what a state stands for.
use Rattle.std.proofs.Common.{◌++◌, ◌==◌, ◌∙◌, ◌∷◌, ◌≡◌, List, None, Some, [], add-one, ap, false, if◌then◌else◌, length, not, refl, ℕ}
use Rattle.std.proofs.lemmas.List.{length-append}
use Rattle.std.specs.List.{filter}
use Rattle.cell_codec.specs.declared.cell.Cell.{Cell}
use Rattle.circuit_model.specs.Packaged.{back_bodies}
use Rattle.circuit_model.specs.Rules.{Rules}
use Rattle.circuit_model.specs.Words.{log}
use Rattle.tr_io.specs.declared.answers.TakeAnswer.TheVariants.{Queued}
use Rattle.tr_io.specs.declared.names.Dir.TheVariants.{Back, Forth}
use Rattle.tr_io.specs.declared.step.Step.{Step}
use Rattle.tr_io.specs.declared.step.Step.TheVariants.{Take}
use Rattle.switch_model.specs.Answers.EdgeOut.{Ordered}
use Rattle.switch_model.specs.History.EdgePast.{edge_past}
use Rattle.switch_model.specs.History.Legs.{at, holds_id}
use Rattle.switch_model.specs.History.Past.{Past, past}
use Rattle.switch_model.specs.History.Taken.{taken_forth}
use Rattle.switch_model.specs.Legal.{IsRightStep}
use Rattle.switch_model.specs.Names.{Way, chan_no, circuit_cell}
use Rattle.switch_model.specs.Start.{SwitchStart}
use Rattle.switch_model.specs.Waiting.Claims.{born_bodies}
use Rattle.switch_model.specs.Waiting.Counts.{cell_count, tick}
use Rattle.switch_model.specs.Waiting.Dials.{dials_made, was_handed_out}
use Rattle.switch_model.specs.Waiting.Lanes.{lane}
use Rattle.switch_machine.specs.Calls.Take.{forth_waits, queued_forth_state}
use Rattle.switch_machine.specs.Machine.{dial_in, leg_in}
use Rattle.switch_machine.specs.Stands.{Stands}
use Rattle.switch_machine.specs.Stands.OneCircuit.{CircuitStands}
use Rattle.switch_machine.specs.State.{CircuitState, State, slot_at}
use Rattle.switch_model.proofs.Common.{self_eq}
use Rattle.switch_model.proofs.Others.{other_pasts}
use Rattle.switch_machine.proofs.NewBodies.{new-many, new-none}
use Rattle.switch_machine.proofs.OneCircuit.{circuit-changed, circuit-own}
use Rattle.switch_machine.proofs.OneStep.{step-added}
use Rattle.switch_machine.proofs.OtherEdges.{other_edges}
use Rattle.switch_machine.proofs.SameLegs.{legs-kept, all-dials-kept, counts-same, dials-same, ids-same, legs-same}
use Rattle.switch_machine.proofs.Settling.Core.{way-queued}
use Rattle.switch_machine.proofs.Slots.{length-with}
use Rattle.switch_machine.proofs.Take.Frees.{circuit-taken, frees, frees-none, ids-freed, lane-stays, leg-taken}

abbrev queueing : ℕ → Cell → Step
queueing chan cell = Take (chan_no chan) cell Queued

-- what it says of its circuit
past-queued : (rules : Rules) (h : List Step) (chan c : ℕ) (cell : Cell)
    → at h chan cell.circ ≡ Some (record { circ = c; number = 0 }) →
    past rules (queueing chan cell ∷ h) c ≡ record (past rules h c) { taken_forth = taken_forth h c ++ circuit_cell cell ∷ [] }
past-queued rules h chan c cell here = simp (here, self_eq c)

both-new : (a b all : List Way) (w : Way) → a ≡ [] → b ≡ w ∷ [] → (a ++ b) ++ all ≡ w ∷ all
both-new a b all w e f = rw (e, f) refl

born-queued : (rules : Rules) (h : List Step) (chan c : ℕ) (cell : Cell)
    → at h chan cell.circ ≡ Some (record { circ = c; number = 0 }) →
    born_bodies rules (queueing chan cell ∷ h) ≡ record { circ = c; dir = Forth } ∷ born_bodies rules h
born-queued rules h chan c cell here =
    let own = past-queued rules h chan c cell here in
    rw here (both-new _ _ (born_bodies rules h) (record { circ = c; dir = Forth })
    (new-none (record { circ = c; dir = Back }) _ _ (ap (λ (p : Past). length (back_bodies (log rules p.events))) own))
    (new-many (record { circ = c; dir = Forth }) _ _ 1
    (ap (λ (p : Past). length p.taken_forth) own ∙ length-append (taken_forth h c) (circuit_cell cell ∷ []))))

edge-queued : (rules : Rules) (h : List Step) (chan c : ℕ) (cell : Cell)
    → at h chan cell.circ ≡ Some (record { circ = c; number = 0 }) → (d : ℕ) → (c == d) ≡ false →
    edge_past rules (queueing chan cell ∷ h) d ≡ edge_past rules h d
edge-queued rules h chan c cell here d other =
    other_edges rules h (queueing chan cell) d (rw (here, other) refl) refl

-- its circuit
circuit-queued : (rules : Rules) (closes : List Ordered) (h : List Step) (chan c n : ℕ) (cell : Cell) (x : CircuitState)
    → at h chan cell.circ ≡ Some (record { circ = c; number = 0 }) → (cell.command == 4) ≡ false →
    n ≡ length (born_bodies rules h) → CircuitStands rules closes x c (past rules h c) (λ j. holds_id h c j) (edge_past rules h c)
    →
    CircuitStands rules closes (forth_waits n (circuit_cell cell) x) c (past rules (queueing chan cell ∷ h) c)
    (λ j. holds_id (queueing chan cell ∷ h) c j) (edge_past rules (queueing chan cell ∷ h) c)
circuit-queued rules closes h chan c n cell x here other same own =
    let born = born-queued rules h chan c cell here in
    rw (past-queued rules h chan c cell here) (record {
      live = own.live;
      sent_count = own.sent_count;
      born = own.born;
      sealed = own.sealed;
      linked = own.linked;
      hops = own.hops;
      legs = λ k. leg-taken h chan cell Queued c k (slot_at x.legs k) _ _ (λ l found. frees-none chan cell other l.chan l.id)
          (own.legs k);
      forth = rw (born, self_eq c, ← same) (way-queued c Forth x.forth _ _ _ _ _ n (circuit_cell cell) own.forth);
      back = rw (born, self_eq c) own.back;
      orders = own.orders;
      no_left = own.no_left;
      dial = own.dial;
    })

pub queued-forth : (start : SwitchStart) (s : State) (h : List Step) (chan c : ℕ) (cell : Cell) (x : CircuitState)
    → Stands start s h → slot_at s.circuits c ≡ Some x → at h chan cell.circ ≡ Some (record { circ = c; number = 0 }) →
    (cell.command == 4) ≡ false → IsRightStep start h (queueing chan cell)
    → Stands start (queued_forth_state s c (circuit_cell cell) x) (queueing chan cell ∷ h)
queued-forth start s h chan c cell x st found here other right =
    let rules = start.rules in
    let step = queueing chan cell in
    let y = forth_waits s.bodies (circuit_cell cell) x in
    let t = queued_forth_state s c (circuit_cell cell) x in
    let own = circuit-own rules s.last_closes s.circuits (λ d. past rules h d) (λ d k. holds_id h d k) (λ d. edge_past rules h d)
    c x found st.circuits in
    let same_legs = legs-kept s c x y found refl in
    let same_dials = all-dials-kept s c x y found refl in
    let many : length t.circuits ≡ length s.circuits = length-with s.circuits c _ in
    let past_same : (d : ℕ) → (c == d) ≡ false → past rules (step ∷ h) d ≡ past rules h d =
    λ d unlike. other_pasts rules h step d (rw (here, unlike) refl) in
    let none : (m : ℕ) → filter (λ e. not (frees chan cell m e.id)) (lane rules h m) ≡ lane rules h m =
    λ m. lane-stays (frees chan cell m) (lane rules h m) (λ e. frees-none chan cell other m e.id) in
    record {
      steps = step-added start s.steps h step st.steps right;
      numbers = record {
        channels = st.numbers.channels;
        circuits = many ∙ st.numbers.circuits;
        claims = st.numbers.claims;
        bodies = rw (born-queued rules h chan c cell here, ← st.numbers.bodies) (add-one s.bodies);
        dial_orders = st.numbers.dial_orders;
        tick = st.numbers.tick;
      };
      channels = record { channel = λ m. rw (none m) (st.channels.channel m); no_channel = st.channels.no_channel };
      circuits = circuit-changed rules s.last_closes s.circuits (λ d. past rules h d) (λ d. past rules (step ∷ h) d)
          (λ d k. holds_id h d k) (λ d k. holds_id (step ∷ h) d k)
          (λ d. edge_past rules h d) (λ d. edge_past rules (step ∷ h) d) c x (Some y) found
          (λ d unlike old. circuit-taken rules s.last_closes h chan cell Queued d (slot_at s.circuits d)
          (λ k l has. frees-none chan cell other l.chan l.id) (past_same d unlike)
          (edge-queued rules h chan c cell here d unlike) old)
          (λ d unlike fresh. rw (past_same d unlike, edge-queued rules h chan c cell here d unlike) fresh)
          (circuit-queued rules s.last_closes h chan c s.bodies cell x here other st.numbers.bodies own) st.circuits;
      ids = ids-same (leg_in t) (leg_in s) (λ m. filter (λ e. not (frees chan cell m e.id)) (lane rules h m))
          (λ m i. if frees chan cell m i then None else at h m i) same_legs
          (ids-freed (leg_in s) (leg_in s) (λ m. lane rules h m) (at h) (frees chan cell) (λ leg m i free has. has) st.ids);
      legs = legs-same s.channels (leg_in t) (leg_in s) same_legs st.legs;
      dials = dials-same s.again (dial_in t) (dial_in s) (length (dials_made rules h)) (was_handed_out h) same_dials st.dials;
      counts = counts-same (leg_in t) (leg_in s) (cell_count rules h) (tick h) (length t.circuits) (length s.circuits) same_legs
          many st.counts;
      slots = st.slots;
      not_yet = st.not_yet;
    }
