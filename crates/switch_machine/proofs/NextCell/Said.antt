-- The cell that the state sends next is the one that the history tells.
use Rattle.std.proofs.Common.{◌≡◌, ℕ, List, [], Option, Some, None, refl, sym}
use Rattle.circuit_model.specs.Rules.{Rules}
use Rattle.tr_io.specs.declared.step.Step.{Step}
use Rattle.switch_model.specs.Start.{SwitchStart}
use Rattle.switch_model.specs.Names.{Leg}
use Rattle.switch_model.specs.History.Legs.{Port, port, holds_id}
use Rattle.switch_model.specs.History.Past.{past}
use Rattle.switch_model.specs.History.EdgePast.{edge_past}
use Rattle.switch_model.specs.Answers.NextCell.{first_queued, first_of, next_cell_answer}
use Rattle.switch_machine.specs.State.{ChannelState, LegState, CircuitState, State, slot_at}
use Rattle.switch_machine.specs.Machine.{leg_at}
use Rattle.switch_machine.specs.Stands.Channels.{channel_past, ChannelAt}
use Rattle.switch_machine.specs.Stands.OneLeg.{LegAt}
use Rattle.switch_machine.specs.Stands.OneCircuit.{CircuitAt}
use Rattle.switch_machine.specs.Stands.{Stands}
use Rattle.switch_machine.specs.Calls.NextCell.{first_cell, cell_of_leg, picked_leg, next_result_on, next_cell_result}
use Rattle.switch_machine.proofs.Waiting.{queue_of, queue-said}
use Rattle.switch_machine.proofs.Counting.{picked-said}

no-cell : (p : Option Port) → first_queued p [] ≡ None
no-cell None = refl
no-cell (Some place) = refl

leg-cell : (rules : Rules) (h : List Step) (c k : ℕ) (y : Option LegState) → LegAt rules y k (past rules h c) (holds_id h c k)
    → first_cell y ≡ first_queued (port h c k) (queue_of y)
leg-cell rules h c k None at = sym (no-cell (port h c k))
leg-cell rules h c k (Some leg) at = rw at.port refl

circuit-cell : (start : SwitchStart) (s : State) (h : List Step) (c k : ℕ) (x : Option CircuitState) →
    CircuitAt start.rules s.last_closes x c (past start.rules h c) (λ j. holds_id h c j) (edge_past start.rules h c)
    → first_cell (leg_at x k) ≡ first_queued (port h c k) (queue_of (leg_at x k))
circuit-cell start s h c k None gone = sym (no-cell (port h c k))
circuit-cell start s h c k (Some x) own = leg-cell start.rules h c k (slot_at x.legs k) (own.legs k)

cell-said : (start : SwitchStart) (s : State) (h : List Step) → Stands start s h → (o : Option Leg)
    → cell_of_leg s o ≡ first_of start.rules h o
cell-said start s h st None = refl
cell-said start s h st (Some leg) =
    rw (queue-said start s h st leg.circ leg.number)
    (circuit-cell start s h leg.circ leg.number (slot_at s.circuits leg.circ) (st.circuits.circuit leg.circ))

next_cell_said_by : (start : SwitchStart) (s : State) (h : List Step) (chan new_tick : ℕ) (x : Option ChannelState)
    → Stands start s h → ChannelAt x (channel_past start.rules h chan) →
    next_result_on s chan new_tick x ≡ next_cell_answer start.rules h chan new_tick
next_cell_said_by start s h chan new_tick None st at = rw at.channel refl
next_cell_said_by start s h chan new_tick (Some channel) st at =
    rw (at.channel, at.lane, cell-said start s h st (picked_leg s chan new_tick), picked-said start s h st chan new_tick) refl

pub next_cell_said : (start : SwitchStart) (s : State) (h : List Step) (chan new_tick : ℕ) → Stands start s h
    → next_cell_result s chan new_tick ≡ next_cell_answer start.rules h chan new_tick
next_cell_said start s h chan new_tick st =
    next_cell_said_by start s h chan new_tick (slot_at s.channels chan) st (st.channels.channel chan)
