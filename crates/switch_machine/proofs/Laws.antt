-- What each call adds to the history, in the form in which contracts cite it.
use Rattle.std.proofs.Common.{◌≡◌, ℕ, ◌+◌, Bool, true, false, if◌then◌else◌, nat_le, List, [], ◌∷◌, ◌++◌, max, Option, Some, None, refl, sym, subst}
use Rattle.cell_codec.specs.declared.cell.Cell.{Cell}
use Rattle.kdf_tor.specs.declared.LayerKeys.{LayerKeys}
use Rattle.circuit_model.specs.Words.{in_order}
use Rattle.tr_io.specs.declared.answers.OpenAnswer.{OpenAnswer}
use Rattle.tr_io.specs.declared.answers.OpenAnswer.TheVariants.{Opened, Refused}
use Rattle.tr_io.specs.declared.answers.UpAnswer.{UpAnswer}
use Rattle.tr_io.specs.declared.names.ChanNo.{ChanNo}
use Rattle.tr_io.specs.declared.names.Side.{Side}
use Rattle.tr_io.specs.declared.step.Step.{Step}
use Rattle.tr_io.specs.declared.step.Step.TheVariants.{ChannelUp, OpenCircuit, NextCell}
use Rattle.switch_model.specs.Start.{SwitchStart}
use Rattle.switch_model.specs.Conditions.{IsReply}
use Rattle.switch_model.specs.Limits.{channel_limit}
use Rattle.switch_model.specs.Names.{Leg}
use Rattle.switch_model.specs.Waiting.Lanes.{Destroy}
use Rattle.switch_model.specs.Legal.{IsLegalFrom}
use Rattle.switch_machine.specs.State.{ChannelState, LegState, CircuitState, State, slot_at}
use Rattle.switch_machine.specs.Machine.{new_state, counted, filled_slots, leg_in}
use Rattle.switch_machine.specs.Stands.{Stands}
use Rattle.switch_machine.specs.Calls.ChannelUp.{channel_up_result, channel_up_state}
use Rattle.switch_machine.specs.Calls.OpenCircuit.{open_result, open_state_by, open_state}
use Rattle.switch_machine.specs.Calls.NextCell.{ticked, picked_leg, with_leg, sent_from, next_state_on, lane_of, next_cell_result, next_cell_state}
use Rattle.switch_machine.specs.Adds.{Adds, StandsForSome, StandsInOrder}
use Rattle.switch_machine.proofs.Up.{channel_up_kept}
use Rattle.switch_machine.proofs.OpenCircuit.Kept.{open_kept}
use Rattle.switch_machine.proofs.NextCell.Kept.{next_cell_kept}

-- a new switch stands for no steps
pub stands_empty : (start : SwitchStart) → Stands start new_state []
unfolding slot_at
stands_empty start = record {
  steps = record { legal = tt; count_is = refl };
  numbers = record { channels = refl; circuits = refl; claims = refl; bodies = refl; dial_orders = refl; tick = refl };
  channels = record { channel = λ chan. record { channel = refl; lane = refl }; no_channel = λ chan beyond. refl };
  circuits = record {
    circuit = λ c. record { live = refl; left = λ serial. refl };
    fresh = λ c beyond. record { past = refl; left = λ serial. refl; numbers = λ dir. refl };
  };
  ids = record { used = λ chan id. tt };
  legs = record { lie = λ leg. tt };
  dials = record { are_out = tt; once = tt; never = λ order beyond. refl };
  counts = record { counts = λ leg. tt; no_count = λ c k beyond. refl };
  slots = record { slots = λ slot. refl; halts = refl; least_halt = λ n. refl };
  not_yet = record { unreached = λ c serial. refl };
}

pub stands_new : (start : SwitchStart) (s : State) → s ≡ new_state → Stands start s []
stands_new start s e = subst (λ (x : State). Stands start x []) (sym e) (stands_empty start)

-- each call is one step

if-steps : (b : Bool) (s t : State) (n : ℕ) → s.steps ≡ n → t.steps ≡ n → (if b then s else t).steps ≡ n
if-steps true s t n e f = e
if-steps false s t n e f = f

channel_up-steps : (s : State) (side : Side) → (channel_up_state s side).steps ≡ s.steps + 1
channel_up-steps s side = if-steps (nat_le channel_limit (filled_slots s.channels)) (counted s) _ (s.steps + 1) refl refl

open-steps : (s : State) (chan id : ℕ) (reply : Cell) (keys : Option LayerKeys) (x : Option ChannelState) (a : OpenAnswer)
    → (open_state_by s chan id reply keys x a).steps ≡ s.steps + 1
open-steps s chan id reply keys (Some channel) (Refused why) = refl
open-steps s chan id reply (Some keys) (Some channel) (Opened n) = refl
open-steps s chan id reply None (Some channel) (Opened n) = refl
open-steps s chan id reply keys (Some channel) OpenAnswer.Memory = refl
open-steps s chan id reply keys None a = refl

with-steps : (s : State) (now : ℕ) (leg : Leg) (x : Option CircuitState) (y : Option LegState)
    → (with_leg s now leg x y).steps ≡ s.steps
with-steps s now leg (Some x) (Some y) = refl
with-steps s now leg (Some x) None = refl
with-steps s now leg None y = refl

from-steps : (s : State) (now : ℕ) (o : Option Leg) → (sent_from s now o).steps ≡ s.steps
from-steps s now (Some leg) = with-steps s now leg (slot_at s.circuits leg.circ) (leg_in s leg)
from-steps s now None = refl

next-steps : (s : State) (chan given : ℕ) (x : Option ChannelState) (waits : List Destroy)
    → (next_state_on s chan given x waits).steps ≡ s.steps + 1
next-steps s chan given (Some channel) (d ∷ waits) = refl
next-steps s chan given (Some channel) [] = from-steps (ticked s given) (max s.tick given) (picked_leg s chan given)
next-steps s chan given None waits = refl

-- and what it adds

pub channel_up_adds : (start : SwitchStart) (old new : State) (slot : ℕ) (side : Side) (a : UpAnswer)
    → new ≡ channel_up_state old side → a ≡ channel_up_result old → Adds start old new (ChannelUp slot side a)
unfolding Adds
channel_up_adds start old new slot side a e f = rw (e, f) (record {
  steps = channel_up-steps old side;
  stands = λ h st. channel_up_kept start old h slot side st;
})

pub open_adds : (start : SwitchStart) (old new : State) (chan : ChanNo) (id : ℕ) (reply : Cell) (keys : Option LayerKeys)
    (pad : Option (List ℕ)) (a : OpenAnswer) → IsReply reply keys → new ≡ open_state start.circuits old chan.0 id reply keys
    → a ≡ open_result start.circuits old chan.0 id keys →
    Adds start old new (OpenCircuit chan id reply keys pad a)
unfolding Adds
open_adds start old new chan id reply keys pad a asked e f = rw (e, f) (record {
  steps = open-steps old chan.0 id reply keys (slot_at old.channels chan.0) (open_result start.circuits old chan.0 id keys);
  stands = λ h st. open_kept start old h chan.0 id reply keys pad asked st;
})

pub next_cell_adds : (start : SwitchStart) (old new : State) (chan : ChanNo) (given : ℕ) (a : Option Cell)
    → new ≡ next_cell_state old chan.0 given → a ≡ next_cell_result old chan.0 given →
    Adds start old new (NextCell chan given a)
unfolding Adds
next_cell_adds start old new chan given a e f = rw (e, f) (record {
  steps = next-steps old chan.0 given (slot_at old.channels chan.0) (lane_of (slot_at old.channels chan.0));
  stands = λ h st. next_cell_kept start old h chan.0 given st;
})

-- a state that stands for some history goes on to do so
pub stays : (start : SwitchStart) (old new : State) (step : Step) → Adds start old new step → StandsForSome start old
    → StandsForSome start new
unfolding Adds
stays start old new step adds some = record { history = step ∷ some.history; stands = adds.stands some.history some.stands }

-- for a history that is listed oldest first, a step comes at its end
in_order-last : (h : List Step) (step : Step) → in_order (h ++ step ∷ []) ≡ step ∷ in_order h
in_order-last [] step = refl
in_order-last (s ∷ h) step = rw (in_order-last h step) refl

pub adds_at_end : (start : SwitchStart) (old new : State) (step : Step) (h : List Step) → Adds start old new step
    → StandsInOrder start old h → StandsInOrder start new (h ++ step ∷ [])
unfolding Adds StandsInOrder
adds_at_end start old new step h adds st = rw (in_order-last h step) (adds.stands (in_order h) st)

pub legal_for : (start : SwitchStart) (s : State) (h : List Step) → StandsInOrder start s h → IsLegalFrom start h
unfolding StandsInOrder IsLegalFrom
legal_for start s h st = st.steps.legal
