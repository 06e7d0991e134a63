-- take as one step.
use Rattle.std.proofs.Common.{◌&&◌, ◌+◌, ◌≡◌, Bool, List, None, Option, Some, false, if◌then◌else◌, is_some, refl, true, ℕ}
use Rattle.cell_codec.specs.Cells.{IsWellFormed}
use Rattle.cell_codec.specs.declared.cell.Cell.{Cell}
use Rattle.circuit_model.specs.Events.{CircuitCell, Event}
use Rattle.circuit_model.specs.Rules.{Rules}
use Rattle.tr_io.specs.declared.answers.TakeAnswer.{TakeAnswer}
use Rattle.tr_io.specs.declared.answers.TakeAnswer.TheVariants.{Down, PassedOver, Queued}
use Rattle.tr_io.specs.declared.names.ChanNo.{ChanNo}
use Rattle.tr_io.specs.declared.step.Step.{Step}
use Rattle.tr_io.specs.declared.step.Step.TheVariants.{Take}
use Rattle.switch_model.specs.Answers.Take.{is_destroy, is_for_circuit}
use Rattle.switch_model.specs.History.Circuit.{events}
use Rattle.switch_model.specs.History.Taken.{is_hop}
use Rattle.switch_model.specs.Names.{Leg, circuit_cell}
use Rattle.switch_model.specs.Start.{SwitchStart}
use Rattle.switch_machine.specs.Adds.{AddsTo}
use Rattle.switch_machine.specs.Calls.Take.{circuit_state, found_leg, found_state, freed_lane, leg_state, queued_back_state, queued_forth_state, take_result, take_state}
use Rattle.switch_machine.specs.Machine.{counted}
use Rattle.switch_machine.specs.State.{ChannelState, CircuitState, State, slot_at}
use Rattle.switch_machine.proofs.Take.Kept.{take_kept}

queued-steps : (rules : Rules) (ev : List Event) (s : State) (leg : Leg) (cell : CircuitCell) (x : CircuitState) (b : Bool) →
    (if b then queued_back_state rules ev s leg.circ cell x else queued_forth_state s leg.circ cell x).steps ≡ s.steps + 1
queued-steps rules ev s leg cell x true = refl
queued-steps rules ev s leg cell x false = refl

leg-steps : (rules : Rules) (ev : List Event) (s : State) (leg : Leg) (cell : CircuitCell) (x : CircuitState) (a : TakeAnswer)
    → (leg_state rules ev s leg cell x a).steps ≡ s.steps + 1
leg-steps rules ev s leg cell x Queued = queued-steps rules ev s leg cell x (is_hop leg.number)
leg-steps rules ev s leg cell x (Down circ reason) = refl
leg-steps rules ev s leg cell x (PassedOver why) = refl
leg-steps rules ev s leg cell x TakeAnswer.Memory = refl

circuit-steps : (rules : Rules) (ev : ℕ → List Event) (s : State) (leg : Leg) (cell : CircuitCell) (x : Option CircuitState)
    (a : TakeAnswer) → (circuit_state rules ev s leg cell x a).steps ≡ s.steps + 1
circuit-steps rules ev s leg cell (Some x) a = leg-steps rules (ev leg.circ) s leg cell x a
circuit-steps rules ev s leg cell None a = refl

if-steps : (b : Bool) (s t : State) (n : ℕ) → s.steps ≡ n → t.steps ≡ n → (if b then s else t).steps ≡ n
if-steps true s t n e f = e
if-steps false s t n e f = f

lane-steps : (s : State) (chan : ℕ) (cell : Cell) (x : Option ChannelState) → (freed_lane s chan cell x).steps ≡ s.steps + 1
lane-steps s chan cell (Some x) = if-steps (is_destroy cell.command) _ (counted s) (s.steps + 1) refl refl
lane-steps s chan cell None = refl

found-steps : (rules : Rules) (ev : ℕ → List Event) (s : State) (chan : ℕ) (cell : Cell) (o : Option Leg) (a : TakeAnswer)
    → (found_state rules ev s chan cell o a).steps ≡ s.steps + 1
found-steps rules ev s chan cell (Some leg) a = circuit-steps rules ev s leg (circuit_cell cell) (slot_at s.circuits leg.circ) a
found-steps rules ev s chan cell None a = lane-steps s chan cell (slot_at s.channels chan)

take-steps : (rules : Rules) (ev : ℕ → List Event) (s : State) (chan : ℕ) (cell : Cell)
    → (take_state rules ev s chan cell).steps ≡ s.steps + 1
take-steps rules ev s chan cell =
    if-steps (is_some (slot_at s.channels chan) && is_for_circuit cell.command) _ (counted s) (s.steps + 1)
    (found-steps rules ev s chan cell (found_leg s chan cell.circ) (take_result rules ev s chan cell)) refl

pub take_adds : (start : SwitchStart) (h : List Step) (old new : State) (chan : ChanNo) (cell : Cell) (a : TakeAnswer)
    → IsWellFormed cell → new ≡ take_state start.rules (events start.rules h) old chan.0 cell →
    a ≡ take_result start.rules (events start.rules h) old chan.0 cell → AddsTo start h old new (Take chan cell a)
unfolding AddsTo
take_adds start h old new chan cell a formed e f = rw (e, f) (record {
  steps = take-steps start.rules (events start.rules h) old chan.0 cell;
  stands = λ st. take_kept start old h chan.0 cell formed st;
})
