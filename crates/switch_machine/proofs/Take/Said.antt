-- What take answers is what the history tells.
use Rattle.std.proofs.Common.{◌∙◌, ◌≡◌, List, None, Option, Some, ap, refl, subst, sym, ℕ}
use Rattle.cell_codec.specs.declared.cell.Cell.{Cell}
use Rattle.circuit_model.specs.Events.{CircuitCell}
use Rattle.circuit_model.specs.Words.{closes}
use Rattle.circuit_model.specs.declared.event.Event.TheVariants.{Answered}
use Rattle.tr_io.specs.declared.names.Dir.{Dir}
use Rattle.tr_io.specs.declared.names.Dir.TheVariants.{Back, Forth}
use Rattle.tr_io.specs.declared.step.Step.{Step}
use Rattle.switch_model.specs.Answers.Take.{answered, queued, take_answer, taken_at}
use Rattle.switch_model.specs.History.Circuit.{events}
use Rattle.switch_model.specs.History.EdgePast.{edge_past}
use Rattle.switch_model.specs.History.Legs.{at, holds_id}
use Rattle.switch_model.specs.History.Past.{past}
use Rattle.switch_model.specs.Names.{Leg, circuit_cell}
use Rattle.switch_model.specs.Start.{SwitchStart}
use Rattle.switch_machine.specs.Calls.Take.{answered_in, found_leg, found_result, leg_result, queued_in, take_result}
use Rattle.switch_machine.specs.Machine.{leg_in}
use Rattle.switch_machine.specs.Stands.{Stands}
use Rattle.switch_machine.specs.Stands.Channels.{channel_past}
use Rattle.switch_machine.specs.Stands.OneCircuit.{CircuitAt, CircuitStands}
use Rattle.switch_machine.specs.State.{CircuitState, State, slot_at}
use Rattle.switch_machine.proofs.Take.CellCounts.{held-said}
use Rattle.switch_machine.proofs.Take.FoundLeg.{IsFound, Whole, at-found, circuit-found, leg-found, used-live}
use Rattle.switch_machine.proofs.Up.{live-at}

queued-said : (start : SwitchStart) (s : State) (h : List Step) (c : ℕ) (x : CircuitState) → Stands start s h
    → slot_at s.circuits c ≡ Some x
    → CircuitStands start.rules s.last_closes x c (past start.rules h c) (λ j. holds_id h c j) (edge_past start.rules h c) →
    (d : Dir) → queued_in start.rules (events start.rules h c) x c d ≡ queued start.rules h c d
queued-said start s h c x st found own d = rw (held-said start s h c x st found own d) refl

answered-said : (start : SwitchStart) (s : State) (h : List Step) (c : ℕ) (x : CircuitState) → Stands start s h
    → slot_at s.circuits c ≡ Some x
    → CircuitStands start.rules s.last_closes x c (past start.rules h c) (λ j. holds_id h c j) (edge_past start.rules h c) →
    (reason : Option ℕ) → answered_in start.rules (events start.rules h c) x c reason ≡ answered start.rules h c reason
answered-said start s h c x st found own (Some reason) = refl
answered-said start s h c x st found own None = queued-said start s h c x st found own Back

leg-said : (start : SwitchStart) (s : State) (h : List Step) (leg : Leg) (cell : CircuitCell) (x : CircuitState)
    → Stands start s h → slot_at s.circuits leg.circ ≡ Some x →
    CircuitStands start.rules s.last_closes x leg.circ (past start.rules h leg.circ) (λ j. holds_id h leg.circ j)
    (edge_past start.rules h leg.circ) →
    leg_result start.rules (events start.rules h leg.circ) leg cell (Some x) ≡ taken_at start.rules h cell (Some leg)
leg-said start s h leg cell x st found own =
    rw (
      queued-said start s h leg.circ x st found own Forth,
      queued-said start s h leg.circ x st found own Back,
      answered-said start s h leg.circ x st found own (closes start.rules (events start.rules h leg.circ) (Answered cell.body)),
      own.live,
    ) refl

found-said : (start : SwitchStart) (s : State) (h : List Step) (chan id : ℕ) (cell : CircuitCell) (o u : Option Leg)
    → Stands start s h → IsFound s chan id Whole o → at h chan id ≡ u
    → found_result start.rules (events start.rules h) s cell o ≡ taken_at start.rules h cell u
found-said start s h chan id cell None None st own here = refl
found-said start s h chan id cell None (Some leg) st own here = rw (used-live start s h st chan id leg here own) refl
found-said start s h chan id cell (Some leg) u st own here =
    let x = circuit-found chan id leg.number (slot_at s.circuits leg.circ) own in
    let stands =
    subst (λ z. CircuitAt start.rules s.last_closes z leg.circ (past start.rules h leg.circ) (λ j. holds_id h leg.circ j)
    (edge_past start.rules h leg.circ)) x.1 (st.circuits.circuit leg.circ) in
    let same : Some leg ≡ u = sym (at-found start s h st chan id leg (leg_in s leg) refl own) ∙ here in
    ap (leg_result start.rules (events start.rules h leg.circ) leg cell) x.1 ∙ leg-said start s h leg cell x.0 st x.1 stands
    ∙ ap (taken_at start.rules h cell) same

pub take_said : (start : SwitchStart) (s : State) (h : List Step) (chan : ℕ) (cell : Cell) → Stands start s h
    → take_result start.rules (events start.rules h) s chan cell ≡ take_answer start.rules h chan cell
take_said start s h chan cell st =
    rw (
      live-at (channel_past start.rules h chan) (slot_at s.channels chan) (st.channels.channel chan),
      found-said start s h chan cell.circ (circuit_cell cell) (found_leg s chan cell.circ) (at h chan cell.circ) st
          (leg-found s chan cell.circ) refl,
    ) refl
