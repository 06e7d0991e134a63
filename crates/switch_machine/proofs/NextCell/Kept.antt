-- next_cell keeps what a state stands for.
use Rattle.std.proofs.Common.{◌≡◌, ℕ, ◌==◌, true, max, List, [], ◌∷◌, Option, Some, None, refl, sym, ◌∙◌, subst}
use Rattle.circuit_model.specs.Events.{CircuitCell}
use Rattle.tr_io.specs.declared.step.Step.{Step}
use Rattle.tr_io.specs.declared.step.Step.TheVariants.{NextCell}
use Rattle.switch_model.specs.Start.{SwitchStart}
use Rattle.switch_model.specs.Names.{Leg, chan_no}
use Rattle.switch_model.specs.Waiting.Lanes.{Destroy, lane}
use Rattle.switch_model.specs.Waiting.Counts.{some_in}
use Rattle.switch_model.specs.Answers.NextCell.{cell_at, first_of_queue, destroy_or, next_cell_answer}
use Rattle.switch_machine.specs.State.{ChannelState, LegState, CircuitState, State, slot_at}
use Rattle.switch_machine.specs.Machine.{leg_at, leg_in}
use Rattle.switch_machine.specs.Stands.Channels.{channel_past, ChannelAt, ChannelStands}
use Rattle.switch_machine.specs.Stands.{Stands}
use Rattle.switch_machine.specs.Calls.NextCell.{first_cell, cell_of_leg, waits_on, picked_leg, ticked, with_leg, sent_from, next_state_on, next_result_on, next_cell_result, next_cell_state, lane_of}
use Rattle.switch_model.proofs.Common.{and-first, and-second, same-number}
use Rattle.switch_machine.proofs.Counting.{picked-waits}
use Rattle.switch_machine.proofs.NextCell.Said.{next_cell_said}
use Rattle.switch_machine.proofs.NextCell.Destroy.{nothing-left, destroy-left}
use Rattle.switch_machine.proofs.NextCell.Sent.{sent_state, leg-left}

-- the queue of the leg that is picked
queue-step : (start : SwitchStart) (s : State) (h : List Step) (chan new_tick c k : ℕ) (x : CircuitState) (leg : LegState)
    (cells : List CircuitCell) → Stands start s h →
    slot_at s.circuits c ≡ Some x → slot_at x.legs k ≡ Some leg → leg.queue ≡ cells → leg.chan ≡ chan → some_in cells ≡ true
    → lane start.rules h chan ≡ [] →
    first_of_queue leg.id cells ≡ next_cell_answer start.rules h chan new_tick →
    Stands start (sent_state s new_tick c k x leg cells) (NextCell (chan_no chan) new_tick (first_of_queue leg.id cells) ∷ h)
queue-step start s h chan new_tick c k x leg [] st found_circuit found_leg queued on_chan some no_destroy said = cc
queue-step start s h chan new_tick c k x leg (cell ∷ cells) st found_circuit found_leg queued on_chan some no_destroy said =
    subst (λ a. Stands start (sent_state s new_tick c k x leg (cell ∷ cells))
    (NextCell (chan_no a) new_tick (Some (cell_at leg.id cell)) ∷ h)) on_chan
    (leg-left start s h new_tick c k x leg cell cells st found_circuit found_leg queued
    (subst (λ a. lane start.rules h a ≡ []) (sym on_chan) no_destroy)
    (subst (λ a. Some (cell_at leg.id cell) ≡ next_cell_answer start.rules h a new_tick) (sym on_chan) said))

leg-step : (start : SwitchStart) (s : State) (h : List Step) (chan new_tick : ℕ) (leg : Leg) (x : Option CircuitState)
    (y : Option LegState) → Stands start s h → slot_at s.circuits leg.circ ≡ x →
    leg_at x leg.number ≡ y → waits_on chan y ≡ true → lane start.rules h chan ≡ []
    → first_cell y ≡ next_cell_answer start.rules h chan new_tick →
    Stands start (with_leg (ticked s new_tick) (max s.tick new_tick) leg x y)
    (NextCell (chan_no chan) new_tick (first_cell y) ∷ h)
leg-step start s h chan new_tick leg x None st found_circuit found_leg waits no_destroy said = cc
leg-step start s h chan new_tick leg None (Some y) st found_circuit found_leg waits no_destroy said = cc
leg-step start s h chan new_tick leg (Some x) (Some y) st found_circuit found_leg waits no_destroy said =
    queue-step start s h chan new_tick leg.circ leg.number x y y.queue st found_circuit found_leg refl
    (same-number y.chan chan (and-first (y.chan == chan) _ waits)) (and-second (y.chan == chan) _ waits) no_destroy said

picked-step : (start : SwitchStart) (s : State) (h : List Step) (chan new_tick : ℕ) (o : Option Leg) → Stands start s h
    → picked_leg s chan new_tick ≡ o → lane start.rules h chan ≡ [] →
    cell_of_leg s o ≡ next_cell_answer start.rules h chan new_tick →
    Stands start (sent_from (ticked s new_tick) (max s.tick new_tick) o) (NextCell (chan_no chan) new_tick (cell_of_leg s o) ∷ h)
picked-step start s h chan new_tick None st found no_destroy said = nothing-left start s h chan new_tick st said
picked-step start s h chan new_tick (Some leg) st found no_destroy said =
    leg-step start s h chan new_tick leg (slot_at s.circuits leg.circ) (leg_in s leg) st refl refl
    (picked-waits s chan new_tick leg found) no_destroy said

lane-step : (start : SwitchStart) (s : State) (h : List Step) (chan new_tick : ℕ) (channel : ChannelState) (waits : List Destroy)
    → Stands start s h → slot_at s.channels chan ≡ Some channel → channel.lane ≡ waits →
    destroy_or waits (cell_of_leg s (picked_leg s chan new_tick)) ≡ next_cell_answer start.rules h chan new_tick →
    Stands start (next_state_on s chan new_tick (Some channel) waits)
    (NextCell (chan_no chan) new_tick (destroy_or waits (cell_of_leg s (picked_leg s chan new_tick))) ∷ h)
lane-step start s h chan new_tick channel (d ∷ waits) st found first said =
    destroy-left start s h chan new_tick channel d waits st found first said
lane-step start s h chan new_tick channel [] st found first said =
    let own : ChannelStands channel (channel_past start.rules h chan) =
    subst (λ x. ChannelAt x (channel_past start.rules h chan)) found (st.channels.channel chan) in
    picked-step start s h chan new_tick (picked_leg s chan new_tick) st refl (sym own.lane ∙ first) said

channel-step : (start : SwitchStart) (s : State) (h : List Step) (chan new_tick : ℕ) (x : Option ChannelState) → Stands start s h
    → slot_at s.channels chan ≡ x →
    next_result_on s chan new_tick x ≡ next_cell_answer start.rules h chan new_tick →
    Stands start (next_state_on s chan new_tick x (lane_of x))
    (NextCell (chan_no chan) new_tick (next_result_on s chan new_tick x) ∷ h)
channel-step start s h chan new_tick None st found said = nothing-left start s h chan new_tick st said
channel-step start s h chan new_tick (Some channel) st found said =
    lane-step start s h chan new_tick channel channel.lane st found refl said

pub next_cell_kept : (start : SwitchStart) (s : State) (h : List Step) (chan new_tick : ℕ) → Stands start s h →
    Stands start (next_cell_state s chan new_tick) (NextCell (chan_no chan) new_tick (next_cell_result s chan new_tick) ∷ h)
next_cell_kept start s h chan new_tick st =
    channel-step start s h chan new_tick (slot_at s.channels chan) st refl (next_cell_said start s h chan new_tick st)
