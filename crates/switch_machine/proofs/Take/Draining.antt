-- A cell on a leg of a live circuit that is passed over, as on a draining leg, keeps what a state stands for: the
-- peer's DESTROY ends the leg.
use Rattle.std.proofs.Common.{List, Some, ap, arith, if◌then◌else◌, length, not, refl, subst, sym, ℕ, ◌&&◌, ◌==◌, ◌∙◌, ◌∷◌, ◌≡◌}
use Rattle.std.specs.List.{filter}
use Rattle.cell_codec.specs.declared.cell.Cell.{Cell}
use Rattle.circuit_model.specs.Words.{log}
use Rattle.switch_model.specs.History.Circuit.{events, sent}
use Rattle.switch_model.specs.History.EdgePast.{edge_past}
use Rattle.switch_model.specs.History.Legs.{at, holds_id}
use Rattle.switch_model.specs.History.Past.{past}
use Rattle.switch_model.specs.Legal.{IsRightStep}
use Rattle.switch_model.specs.Names.{Way, chan_no}
use Rattle.switch_model.specs.Start.{SwitchStart}
use Rattle.switch_model.specs.Waiting.Counts.{cell_count, tick}
use Rattle.switch_model.specs.Waiting.Dials.{dials_made, was_handed_out}
use Rattle.switch_model.specs.Waiting.Lanes.{Destroy, lane}
use Rattle.switch_model.specs.Waiting.Queues.{sealed_count, sendable}
use Rattle.tr_io.specs.declared.answers.TakeAnswer.TheVariants.{PassedOver}
use Rattle.tr_io.specs.declared.answers.Why.{Why}
use Rattle.tr_io.specs.declared.step.Step.{Step}
use Rattle.tr_io.specs.declared.step.Step.TheVariants.{Take}
use Rattle.switch_model.proofs.LaneIds.{apart as lane-apart}
use Rattle.switch_machine.proofs.OneCircuit.{circuit-changed, circuit-own}
use Rattle.switch_machine.proofs.OneStep.{step-added}
use Rattle.switch_machine.proofs.SameLegs.{all-dials-kept, dials-same}
use Rattle.switch_machine.proofs.Slots.{length-with}
use Rattle.switch_machine.proofs.Take.Frees.{circuit-taken, frees, ids-freed}
use Rattle.switch_machine.proofs.Take.LostLeg.{behind-stands, behind_cell, dial-by, free-others, lane-same, leg-behind, leg_in-behind, lies-if, loses, port-stays, slot-behind}
use Rattle.switch_machine.proofs.Take.PassedOver.{born-passed, edge-passed, past-passed}
use Rattle.switch_machine.proofs.TearDown.Torn.{count-if}
use Rattle.switch_machine.specs.Calls.Take.{lost_leg_state}
use Rattle.switch_machine.specs.Machine.{dial_in, leg_in}
use Rattle.switch_machine.specs.Stands.{Stands}
use Rattle.switch_machine.specs.Stands.OneCircuit.{CircuitStands}
use Rattle.switch_machine.specs.Stands.OneLeg.{LegAt}
use Rattle.switch_machine.specs.State.{CircuitState, LegState, State, slot_at}

abbrev passing : ℕ → Cell → Step
passing chan cell = Take (chan_no chan) cell (PassedOver Why.NoCircuit)

pub drained-kept : (start : SwitchStart) (s : State) (h : List Step) (chan c k : ℕ) (cell : Cell) (x : CircuitState)
    (l : LegState) →
    Stands start s h → slot_at s.circuits c ≡ Some x → slot_at x.legs k ≡ Some l → l.chan ≡ chan → l.id ≡ cell.circ →
    at h chan cell.circ ≡ Some (record { circ = c; number = k }) → IsRightStep start h (passing chan cell) →
    Stands start (lost_leg_state s c (behind_cell k cell x)) (passing chan cell ∷ h)
drained-kept start s h chan c k cell x l st found first on_channel on_id here right =
    let rules = start.rules in
    let step = passing chan cell in
    let why = Why.NoCircuit in
    let y = behind_cell k cell x in
    let t = lost_leg_state s c y in
    let own = circuit-own rules s.last_closes s.circuits (λ d. past rules h d) (λ d j. holds_id h d j) (λ d.
    edge_past rules h d) c x found st.circuits in
    let many : length t.circuits ≡ length s.circuits = length-with s.circuits c (Some y) in
    let lanes : ℕ → List Destroy = λ m. filter (λ d. not (frees chan cell m d.id)) (lane rules h m) in
    let same_lane : (m : ℕ) → lanes m ≡ lane rules h m = λ m. lane-same rules h chan c k m cell (lane rules h m) here own.live
    (lane-apart start h st.steps.legal m) in
    let stands : LegAt rules (Some l) k (past rules h c) (holds_id h c k) = subst (λ z. LegAt rules z k (past rules h c)
    (holds_id h c k)) first (own.legs k) in
    let circuit_now : CircuitStands rules s.last_closes y c (past rules (step ∷ h) c) (λ j. holds_id (step ∷ h) c j)
    (edge_past rules (step ∷ h) c) =
    rw (past-passed rules h chan cell why c, edge-passed rules h chan cell why c) (behind-stands rules s.last_closes x k
    (cell.command == 4) c (past rules h c) (λ j. holds_id h c j) (λ j. holds_id (step ∷ h) c j) (edge_past rules h c) own
    (λ j.
    rw (slot-behind k cell x l j first) (leg-behind start s h chan c k cell (PassedOver why) x l (sent rules h c j) (sendable
    (log rules (events rules h c)) (sealed_count h c) j) st found here stands.port on_channel on_id j (loses k cell j) refl
    (own.legs j)))) in
    record {
      steps = step-added start s.steps h step st.steps right;
      numbers = record {
        channels = st.numbers.channels;
        circuits = many ∙ st.numbers.circuits;
        claims = st.numbers.claims;
        bodies = st.numbers.bodies ∙ ap (λ (all : List Way). length all) (sym (born-passed rules h chan cell why));
        dial_orders = st.numbers.dial_orders;
        tick = st.numbers.tick;
      };
      channels = record { channel = λ m. rw (same_lane m) (st.channels.channel m); no_channel = st.channels.no_channel };
      circuits = circuit-changed rules s.last_closes s.circuits (λ d. past rules h d) (λ d. past rules (step ∷ h) d) (λ d j.
          holds_id h d j) (λ d j. holds_id (step ∷ h) d j) (λ d. edge_past rules h d) (λ d. edge_past rules (step ∷ h) d) c x
          (Some y) found
          (λ d other old. circuit-taken rules s.last_closes h chan cell (PassedOver why) d (slot_at s.circuits d) (λ j m has.
          free-others start s h chan c k cell st here d j m (frees chan cell m.chan m.id) other has refl)
          (past-passed rules h chan cell why d) (edge-passed rules h chan cell why d) old)
          (λ d other fresh. rw (past-passed rules h chan cell why d, edge-passed rules h chan cell why d) fresh)
          circuit_now st.circuits;
      ids = ids-freed (leg_in s) (leg_in t) (λ m. lane rules h m) (at h) (frees chan cell)
          (port-stays s chan c k cell x l found first on_channel on_id) st.ids;
      legs = record {
        lie = λ leg. rw (leg_in-behind s c k cell x l found first leg) (lies-if s.channels
            ((leg.circ == c) && loses k cell leg.number) (leg_in s leg) (st.legs.lie leg));
      };
      dials = dials-same s.again (dial_in t) (dial_in s) (length (dials_made rules h)) (was_handed_out h)
          (all-dials-kept s c x y found (dial-by k x (cell.command == 4))) st.dials;
      counts = record {
        counts = λ leg. rw (leg_in-behind s c k cell x l found first leg) (count-if ((leg.circ == c) && loses k cell leg.number)
            (leg_in s leg) (cell_count rules h leg.circ leg.number) (tick h) (st.counts.counts leg));
        no_count = λ d j beyond. st.counts.no_count d j (omega (arith, beyond, many));
      };
      slots = st.slots;
      not_yet = st.not_yet;
    }
