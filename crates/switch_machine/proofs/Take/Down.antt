-- A cell on a leg with which the circuit goes down keeps what a state stands for. Where it is the peer's DESTROY
-- the leg loses its CircID first, and gets no DESTROY of ours.
use Rattle.std.proofs.Common.{Bool, List, None, Some, [], ap, arith, false, if◌then◌else◌, length, not, refl, subst, sym, true, ℕ, ◌&&◌, ◌==◌, ◌∙◌, ◌∷◌, ◌≡◌}
use Rattle.std.specs.List.{filter}
use Rattle.cell_codec.specs.declared.cell.Cell.{Cell}
use Rattle.circuit_model.specs.Log.{Order}
use Rattle.circuit_model.specs.Packaged.{back_bodies}
use Rattle.circuit_model.specs.Words.{log}
use Rattle.switch_model.proofs.Common.{not_equal, self_eq}
use Rattle.switch_model.proofs.Others.{other_pasts}
use Rattle.switch_model.specs.History.Circuit.{events, sent}
use Rattle.switch_model.specs.History.EdgePast.{edge_past}
use Rattle.switch_model.specs.History.Legs.{at, holds_id, port}
use Rattle.switch_model.specs.History.Past.{past}
use Rattle.switch_model.specs.Legal.{IsRightStep}
use Rattle.switch_model.specs.Names.{Way, chan_no, circ_no, circuit_cell}
use Rattle.switch_model.specs.Start.{SwitchStart}
use Rattle.switch_model.specs.Waiting.Counts.{cell_count, tick}
use Rattle.switch_model.specs.Waiting.Dials.{dials_made, was_handed_out}
use Rattle.switch_model.specs.Waiting.Lanes.{Destroy, lane}
use Rattle.switch_model.specs.Waiting.Orders.{is_reached}
use Rattle.switch_model.specs.Waiting.Queues.{sealed_count, sendable}
use Rattle.tr_io.specs.declared.answers.TakeAnswer.TheVariants.{Down}
use Rattle.tr_io.specs.declared.step.Step.{Step}
use Rattle.tr_io.specs.declared.step.Step.TheVariants.{Take}
use Rattle.switch_model.proofs.LaneIds.{apart as lane-apart}
use Rattle.switch_machine.proofs.OneCircuit.{circuit-own}
use Rattle.switch_machine.proofs.OtherEdges.{other_edges}
use Rattle.switch_machine.proofs.SameLegs.{all-dials-kept, dials-same}
use Rattle.switch_machine.proofs.Slots.{length-with, slot_at-inside, slot_at-with}
use Rattle.switch_machine.proofs.Take.Frames.{born-alike}
use Rattle.switch_machine.proofs.Take.Frees.{circuit-taken, frees, ids-freed}
use Rattle.switch_machine.proofs.Take.LostLeg.{behind_cell, dial-by, free-others, lane-same, leg-behind, leg_in-behind, lies-if, loses, port-stays, size-by, slot-behind}
use Rattle.switch_machine.proofs.Take.Quiet.{IsQuiet, behind-down, events-down, quiet-taken}
use Rattle.switch_machine.proofs.TearDown.By.{torn-by}
use Rattle.switch_machine.proofs.TearDown.Torn.{count-if}
use Rattle.switch_machine.specs.Calls.Take.{events_taken, lost_leg_state}
use Rattle.switch_machine.specs.Calls.TearDown.{torn_state}
use Rattle.switch_machine.specs.Machine.{dial_in, leg_in}
use Rattle.switch_machine.specs.Stands.{Stands}
use Rattle.switch_machine.specs.Stands.OneLeg.{LegAt, LegBy}
use Rattle.switch_machine.specs.State.{CircuitState, LegState, State, slot_at}

abbrev downing : ℕ → Cell → ℕ → ℕ → Step
downing chan cell c r = Take (chan_no chan) cell (Down (circ_no c) r)

unlike : (c d : ℕ) → (c == d) ≡ false → d ≡ c → ⊥
unlike c d other same = let both : true ≡ false = sym (self_eq c) ∙ subst (λ e. (c == e) ≡ false) same other in cc

left-none : (b c : Bool) (xs : List Order) → b ≡ false → (if b && c then xs else []) ≡ []
left-none true c xs none = absurd cc
left-none false c xs none = refl

pub down-kept : (start : SwitchStart) (s : State) (h : List Step) (chan c k r : ℕ) (cell : Cell) (x : CircuitState) (l : LegState)
    →
    Stands start s h → slot_at s.circuits c ≡ Some x → slot_at x.legs k ≡ Some l → l.chan ≡ chan → l.id ≡ cell.circ →
    at h chan cell.circ ≡ Some (record { circ = c; number = k }) → IsRightStep start h (downing chan cell c r) →
    Stands start (torn_state start.rules (events_taken start.rules k (circuit_cell cell) (Down (circ_no c) r)
    (events start.rules h c)) (lost_leg_state s c (behind_cell k cell x)) c r (behind_cell k cell x))
    (downing chan cell c r ∷ h)
down-kept start s h chan c k r cell x l st found first on_channel on_id here right =
    let rules = start.rules in
    let step = downing chan cell c r in
    let y = behind_cell k cell x in
    let t = lost_leg_state s c y in
    let own = circuit-own rules s.last_closes s.circuits (λ d. past rules h d) (λ d k. holds_id h d k) (λ d.
    edge_past rules h d) c x found st.circuits in
    let inside = slot_at-inside s.circuits c x found in
    let many : length t.circuits ≡ length s.circuits = length-with s.circuits c (Some y) in
    let told = events-down rules h chan c k r cell here in
    let quiet : IsQuiet (log rules (events rules h c)) (log rules (events rules (step ∷ h) c)) = subst (λ ev. IsQuiet (log rules
    (events rules h c)) (log rules ev)) (sym told) (quiet-taken rules k (circuit_cell cell) (circ_no c) r
    (events rules h c)) in
    let same_behind : (d : ℕ) → back_bodies (log rules (events rules (step ∷ h) d)) ≡ back_bodies (log rules (events rules h d)) =
    behind-down rules h chan c k r cell here quiet.bodies in
    let same_born = born-alike rules h chan cell (Down (circ_no c) r) same_behind (λ d. refl) in
    let same_past : (d : ℕ) → (c == d) ≡ false →
    past rules (step ∷ h) d ≡ past rules h d = λ d other. other_pasts rules h step d (rw (here, other) refl) in
    let same_edge : (d : ℕ) → (c == d) ≡ false → edge_past rules (step ∷ h) d ≡ edge_past rules h d = λ d other.
    other_edges rules h step d (rw (here, other) refl) refl in
    let lanes : ℕ → List Destroy = λ m. filter (λ d. not (frees chan cell m d.id)) (lane rules h m) in
    let same_lane : (m : ℕ) → lanes m ≡ lane rules h m = λ m. lane-same rules h chan c k m cell (lane rules h m) here own.live
    (lane-apart start h st.steps.legal m) in
    let stands : LegAt rules (Some l) k (past rules h c) (holds_id h c k) = subst (λ z. LegAt rules z k (past rules h c)
    (holds_id h c k)) first (own.legs k) in
    let legs_now : (j : ℕ) → LegBy (slot_at y.legs j) (sent rules h c j) (sendable (log rules (events rules (step ∷ h) c))
    (sealed_count h c) j) (port h c j) (holds_id (step ∷ h) c j) = λ j.
    rw (slot-behind k cell x l j first) (subst (λ cells. LegBy (if loses k cell j then None else slot_at x.legs j)
    (sent rules h c j) cells (port h c j) (holds_id (step ∷ h) c j)) (sym (quiet.may_leave (sealed_count h c) j))
    (leg-behind start s h chan c k cell (Down (circ_no c) r) x l (sent rules h c j) (sendable (log rules (events rules h c))
    (sealed_count h c) j) st found here stands.port on_channel on_id j (loses k cell j) refl (own.legs j))) in
    subst (λ ev. Stands start (torn_state rules ev t c r y) (step ∷ h)) told (torn-by start s t h step c r y lanes st (record {
      said = right;
      steps = omega (arith, st.steps.count_is);
      numbers = record {
        channels = st.numbers.channels;
        circuits = many ∙ st.numbers.circuits;
        claims = st.numbers.claims;
        bodies = st.numbers.bodies ∙ ap (λ (all : List Way). length all) (sym same_born);
        dial_orders = st.numbers.dial_orders;
        tick = st.numbers.tick;
      };
      channels = record { channel = λ m. rw (same_lane m) (st.channels.channel m); no_channel = st.channels.no_channel };
      others = λ d other. rw (slot_at-with s.circuits c (Some y) d inside, not_equal d c (λ e. absurd (unlike c d other (sym e))))
          (circuit-taken rules s.last_closes h chan cell (Down (circ_no c) r) d (slot_at s.circuits d) (λ j m has.
          free-others start s h chan c k cell st here d j m (frees chan cell m.chan m.id) other has refl)
          (same_past d other) (same_edge d other) (st.circuits.circuit d));
      fresh = λ d beyond.
          let other = not_equal c d (λ same. absurd (omega (arith, beyond, many, inside, same))) in
          rw (same_past d other, same_edge d other) (st.circuits.fresh d (omega (arith, beyond, many)));
      ids = ids-freed (leg_in s) (leg_in t) (λ m. lane rules h m) (at h) (frees chan cell)
          (port-stays s chan c k cell x l found first on_channel on_id) st.ids;
      legs_stand = record {
        lie = λ leg. rw (leg_in-behind s c k cell x l found first leg) (lies-if s.channels
            ((leg.circ == c) && loses k cell leg.number) (leg_in s leg) (st.legs.lie leg));
      };
      dials = dials-same s.again (dial_in t) (dial_in s) (length (dials_made rules h)) (was_handed_out h)
          (all-dials-kept s c x y found (dial-by k x (cell.command == 4))) st.dials;
      counts = record {
        counts = λ leg. rw (leg_in-behind s c k cell x l found first leg) (count-if ((leg.circ == c) && loses k cell leg.number)
            (leg_in s leg) (cell_count rules h leg.circ leg.number) (tick h) (st.counts.counts leg));
        no_count = λ d k beyond. st.counts.no_count d k (omega (arith, beyond, many));
      };
      slots = st.slots;
      not_yet = st.not_yet;
      found = rw (slot_at-with s.circuits c (Some y) c inside, self_eq c) refl;
      legs = legs_now;
      left = λ serial. own.no_left serial ∙ sym (left-none (is_reached h c serial) _ _ (st.not_yet.unreached c serial));
      lane = λ m. rw (own.live, size-by k x (cell.command == 4), own.hops) refl;
      dead = rw (self_eq c) refl;
    }))
