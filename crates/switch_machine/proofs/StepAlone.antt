-- A step that changes the count of steps and nothing else that the groups of a state see.
use Rattle.std.proofs.Common.{◌≡◌, ℕ, Bool, List, ◌∷◌, length, Option, sym, subst}
use Rattle.circuit_model.specs.Rules.{Rules}
use Rattle.tr_io.specs.declared.names.StreamKey.{StreamKey}
use Rattle.tr_io.specs.declared.step.Step.{Step}
use Rattle.switch_model.specs.Answers.Halted.{halts, some_halt}
use Rattle.switch_model.specs.History.EdgePast.{EdgePast, edge_past}
use Rattle.switch_model.specs.History.Legs.{at, holds_id}
use Rattle.switch_model.specs.History.Past.{Past, past}
use Rattle.switch_model.specs.Legal.{IsRightStep}
use Rattle.switch_model.specs.Names.{Leg}
use Rattle.switch_model.specs.Start.{SwitchStart}
use Rattle.switch_model.specs.Waiting.Counts.{tick, cell_count}
use Rattle.switch_model.specs.Waiting.Dials.{dials_made, was_handed_out}
use Rattle.switch_model.specs.Waiting.Lanes.{Destroy, lane}
use Rattle.switch_model.specs.Waiting.Orders.{bound, is_reached}
use Rattle.switch_machine.proofs.OneStep.{step-added}
use Rattle.switch_machine.specs.Machine.{leg_in, dial_in, counted}
use Rattle.switch_machine.specs.Stands.{Stands}
use Rattle.switch_machine.specs.Stands.Channels.{ChannelPast, channel_past, ChannelsStand}
use Rattle.switch_machine.specs.Stands.CircIds.{CircIdsStand}
use Rattle.switch_machine.specs.Stands.Circuits.{CircuitsStand}
use Rattle.switch_machine.specs.Stands.Counts.{CountsStand}
use Rattle.switch_machine.specs.Stands.Dials.{DialsStand}
use Rattle.switch_machine.specs.Stands.NotYet.{NotYetStand}
use Rattle.switch_machine.specs.Stands.Numbers.{Numbers, numbers_in, numbers_past, NumbersStand}
use Rattle.switch_machine.specs.Stands.Slots.{SlotsStand}
use Rattle.switch_machine.specs.State.{State}

-- All that the groups ask of a history, but for its steps.
pub record Words : Type 0 where
  pub numbers : Numbers
  pub channel : ℕ → ChannelPast
  pub circuit : ℕ → Past
  pub has_id : ℕ → ℕ → Bool
  pub edge : ℕ → EdgePast
  pub lanes : ℕ → List Destroy
  pub at_id : ℕ → ℕ → Option Leg
  pub dial_count : ℕ
  pub handed_out : ℕ → Bool
  pub count : ℕ → ℕ → ℕ
  pub tick : ℕ
  pub bound_to : ℕ → Option StreamKey
  pub halt_steps : ℕ
  pub has_halt : ℕ → Bool
  pub reached : ℕ → ℕ → Bool

abbrev pub words : Rules → List Step → Words
words rules h = record {
  numbers = numbers_past rules h;
  channel = λ chan. channel_past rules h chan;
  circuit = λ c. past rules h c;
  has_id = λ c k. holds_id h c k;
  edge = λ c. edge_past rules h c;
  lanes = λ chan. lane rules h chan;
  at_id = at h;
  dial_count = length (dials_made rules h);
  handed_out = was_handed_out h;
  count = cell_count rules h;
  tick = tick h;
  bound_to = bound h;
  halt_steps = halts h;
  has_halt = λ n. some_halt n h;
  reached = is_reached h;
}

pub step-alone : (start : SwitchStart) (s : State) (h : List Step) (step : Step) →
    words start.rules (step ∷ h) ≡ words start.rules h → IsRightStep start h step → Stands start s h →
    Stands start (counted s) (step ∷ h)
step-alone start s h step same right st =
    let back = sym same in
    record {
      steps = step-added start s.steps h step st.steps right;
      numbers = subst (λ (w : Words). NumbersStand (numbers_in s) w.numbers) back st.numbers;
      channels = subst (λ (w : Words). ChannelsStand s.channels w.channel) back st.channels;
      circuits = subst (λ (w : Words). CircuitsStand start.rules s.last_closes s.circuits w.circuit w.has_id w.edge) back
          st.circuits;
      ids = subst (λ (w : Words). CircIdsStand (leg_in s) w.lanes w.at_id) back st.ids;
      legs = st.legs;
      dials = subst (λ (w : Words). DialsStand s.again (dial_in s) w.dial_count w.handed_out) back st.dials;
      counts = subst (λ (w : Words). CountsStand (leg_in s) w.count w.tick (length s.circuits)) back st.counts;
      slots = subst (λ (w : Words). SlotsStand s.slots s.halts s.least_halt w.bound_to w.halt_steps w.has_halt) back
          st.slots;
      not_yet = subst (λ (w : Words). NotYetStand w.reached) back st.not_yet;
    }
